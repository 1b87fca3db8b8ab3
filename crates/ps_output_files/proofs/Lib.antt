pub mod Maps
pub mod Outcomes
pub mod Logs
pub mod Written
pub mod Unwritten
