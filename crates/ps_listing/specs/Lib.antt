pub mod Listed
pub mod ListText
pub mod LoneText
pub mod Phrases
pub mod FileLists
pub mod SmallLists
