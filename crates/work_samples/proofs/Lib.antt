mod OneEach
