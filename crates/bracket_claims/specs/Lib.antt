pub mod Claims
pub mod Small
