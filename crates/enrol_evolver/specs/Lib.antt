pub mod Expressions
pub mod Targeting
pub mod Clients
pub mod Verdicts
pub mod Wishes
pub mod Evolution
pub mod Laws
