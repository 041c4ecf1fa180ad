pub mod AllOver
pub mod AllSmall
pub mod AllSound
pub mod Complete
pub mod Every
mod Nests
pub mod Soundness
mod Values
