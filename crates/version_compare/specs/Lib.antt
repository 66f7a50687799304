pub mod Bytes
pub mod Versions
pub mod Cutting
pub mod Counting
pub mod Seen
pub mod Laws
