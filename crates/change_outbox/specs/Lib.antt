pub mod Changes
pub mod Contents
pub mod Laws
pub mod Rows
pub mod Shown
pub mod Sizes
pub mod Walking
