pub mod FileNames
pub mod PutTexts
