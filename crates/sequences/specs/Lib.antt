pub mod ListParts
pub mod Order
pub mod Runs
pub mod Shared
pub mod Succession
