pub mod Names
pub mod Spans
pub mod Numbers
pub mod Moments
pub mod Laws
