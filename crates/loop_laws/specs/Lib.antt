pub mod ShownText
pub mod Renumbered
