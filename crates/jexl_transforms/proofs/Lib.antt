mod Named
mod Kept
pub mod Refusing
pub mod SeenCounts
pub mod Names
