pub mod Deeds
pub mod Locals
pub mod Replay
pub mod RowLaws
pub mod Progress
