pub mod Folds
pub mod Gates
pub mod Listed
mod Makings
mod Copied
