pub mod Exact
pub mod Log
pub mod Over
pub mod Places
pub use Rattle.bound_table.specs.Marks
pub use Rattle.bound_table.specs.Rows
