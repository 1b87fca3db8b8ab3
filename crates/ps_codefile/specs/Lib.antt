pub mod Dictionary
pub mod Procedures
pub mod Places
pub mod Roles
pub mod ProcedureFaults
pub mod Opened
