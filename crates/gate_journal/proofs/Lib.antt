mod Answering
mod Appending
mod Fronts
mod Gates
mod Making
pub mod Opening
mod Parts
pub mod Ranges
pub mod Standing
pub mod Unique
mod Writes
