pub mod Lefts
pub mod Readings
pub mod Standing
pub mod Cells
pub mod Visits
pub mod RowLefts
pub mod Lookings
pub mod Wheres
