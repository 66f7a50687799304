pub mod Outcome
pub mod Values
pub mod Walks
pub mod Fields
pub mod Features
pub mod Imports
pub mod Modules
