pub mod Vocabulary
pub mod Rows
pub mod LinkedEntries
pub mod ListLemmas
pub mod FilesListed
pub mod PhraseWords
pub mod SmallLists
