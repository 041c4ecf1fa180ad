pub mod Buckets
pub mod Columns
pub mod Filling
pub mod Places
pub mod Scanned
pub mod Turning
