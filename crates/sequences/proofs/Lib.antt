pub mod Alls
pub mod Texts
pub mod Searching
pub mod Rising
pub mod Insertions
pub mod ListParts
