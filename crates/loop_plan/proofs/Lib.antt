pub mod OnePlan
pub mod Owning
pub mod Pairs
pub mod Weighing
