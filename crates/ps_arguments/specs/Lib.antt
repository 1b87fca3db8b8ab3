pub mod CommandLine
pub mod Outputs
pub mod Requests
