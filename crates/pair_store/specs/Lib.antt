pub mod Choice
pub mod Moments
pub mod Pair
pub mod Repair
pub mod Store
