pub mod Small
pub mod ArePlans
