pub mod Trimmed
pub mod ShellWords
pub mod CodeFileFacts
pub mod Swapped
