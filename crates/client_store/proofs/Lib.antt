pub mod Holding
pub mod Judging
pub mod Placing
pub mod Refusing
pub mod Uniqueness
mod Repairing
pub mod Moments
mod WholeStates
mod Storing
mod Migrating
pub mod Openings
mod NewStores
