pub mod Outcome
pub mod Files
pub mod Asked
pub mod Names
pub mod Linking
pub mod IncludedTables
pub mod Included
pub mod Laws
