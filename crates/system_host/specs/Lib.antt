pub mod FileNames
pub mod ShelfAnswers
