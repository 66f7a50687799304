pub mod Growing
pub mod Trees
pub mod Converting
pub mod OfData
pub mod ToData
pub mod Whole
pub mod RoundTrip
pub mod Pairs
pub mod Depths
pub mod Pairwise
pub mod Searching
pub mod Tokens
mod Contents
mod Lexemes
mod Grammar
mod Values
pub mod SoundReading
