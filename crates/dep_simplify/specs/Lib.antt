pub mod Ready
pub mod Systems
pub mod Verdicts
