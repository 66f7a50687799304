pub mod Gathering
pub mod Finding
pub mod Members
pub mod Ranks
pub mod Orders
pub mod Types
