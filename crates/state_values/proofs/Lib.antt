pub mod Names
pub mod RecordTexts
pub mod ValuesRead
