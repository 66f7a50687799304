pub mod RunLaws
pub mod Digits
pub mod WithSign
pub mod Pieces
pub mod Splits
pub mod Totality
