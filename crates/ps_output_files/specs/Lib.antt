pub mod Log
pub mod World
pub mod Unwritten
pub mod SummaryLine
pub mod Places
pub mod Prepared
pub mod Links
