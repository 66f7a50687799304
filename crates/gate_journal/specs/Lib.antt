pub mod Costs
pub mod Frame
pub mod Journal
pub mod OpenSide
pub mod Opening
pub mod Parts
pub mod Reading
pub mod Records
