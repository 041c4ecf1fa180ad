use Rattle.wave_main.proofs.run.run_text.Goals as goal

pub returns : goal.returns
returns g c inputs are same none =
    let made = c.in_ok-planned.ensures.answer inputs are same none in ((c.in_ok-planned.planned, made.0, c.in_ok-text.ensures), made.1)
