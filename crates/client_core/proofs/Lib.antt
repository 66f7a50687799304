pub mod Preferring
pub mod Asking
pub mod Holding
mod Typing
