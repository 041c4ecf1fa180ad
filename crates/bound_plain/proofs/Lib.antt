pub mod Grids
pub mod Visits
