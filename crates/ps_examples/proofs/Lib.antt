pub mod Vocabulary
pub mod NotOrigins
pub mod NotLinked
pub mod ReliedFiles
