pub mod Statuses
pub mod Values
pub mod Outcome
pub mod Reading
