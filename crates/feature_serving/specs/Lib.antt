pub mod Layers
pub mod Lent
pub mod Serving
pub mod Laws
