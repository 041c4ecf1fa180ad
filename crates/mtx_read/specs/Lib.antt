pub mod Reading
pub mod Entry
pub mod Quick
pub mod Header
pub mod Size
pub mod Files
