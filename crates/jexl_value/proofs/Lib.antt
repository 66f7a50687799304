pub mod Growing
pub mod Searching
pub mod OfTree
pub mod Becoming
pub mod Found
