pub mod Draws
pub mod Members
pub mod Records
pub mod Files
pub mod Parts
pub mod Summary
