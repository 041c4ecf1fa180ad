pub mod Lines
pub mod Systems
pub mod Data
