pub mod Folding
pub mod Listed
pub mod Listing
pub mod Moments
pub mod Ready
pub mod Rows
pub mod Store
