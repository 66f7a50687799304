pub mod Lexing
pub mod Spans
pub mod Laws
pub mod Classes
pub mod Scanning
pub mod Reading
pub mod Answering
