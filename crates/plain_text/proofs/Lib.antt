pub mod Decimals
pub mod Splitting
pub mod Slugs
pub mod ShortNames
pub mod Days
pub mod Written
pub mod Forms
