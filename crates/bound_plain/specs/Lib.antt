pub mod Plain
pub use Rattle.bound_ways.specs.Exact
pub use Rattle.bound_ways.specs.Over
pub use Rattle.bound_ways.specs.Places
pub use Rattle.bound_table.specs.Rows
