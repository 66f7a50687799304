pub mod Kept
pub mod Value
pub mod Weights
pub mod Meaning
pub mod Names
pub mod Inverse
pub mod Equals
pub mod Laws
