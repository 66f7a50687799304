mod Counting
pub mod Ids
mod Joining
pub mod Kept
mod Numbers
mod Pairs
mod Values
pub mod Within
