pub mod Numbers
pub mod Events
pub mod Meaning
pub mod Answering
pub mod Table
pub mod Laws
