pub mod WordsOf
pub mod Copied
pub mod Views
pub mod Rule
pub mod Told
pub mod Sound
pub mod Seats
