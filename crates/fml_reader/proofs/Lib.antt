pub mod SameTrees
pub mod Unders
pub mod Steps
pub mod Rising
pub mod Types
pub mod Pieces
