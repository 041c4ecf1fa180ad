pub mod FitWork
pub mod Machine
pub mod Answers
pub mod Replays
pub mod TwoRows
