mod Asked
mod Dependent
pub mod Fits
pub mod Follow
mod Judging
mod Refuting
mod SoFar
mod Systems
mod Twins
pub mod Unique
