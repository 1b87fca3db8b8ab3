pub mod CodeFiles
pub mod Shown
pub mod ShellWords
pub mod CodeTypes
pub mod CodeFileFacts
pub mod Names
pub mod TypeWords
