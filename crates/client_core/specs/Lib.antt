pub mod Clients
pub mod Openings
pub mod Prepared
