pub mod Texts
pub mod Grid
pub mod Draws
pub mod Lower
pub mod RightSide
