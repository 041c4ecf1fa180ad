pub mod PrintAscii
pub mod PrintTermsAscii
pub mod PrintHeadsAscii
pub mod PrintNestAscii
mod PrintOpsLaws
