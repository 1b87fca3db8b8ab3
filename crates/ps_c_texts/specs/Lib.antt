pub mod Checks
pub mod Kinds
pub mod Printed
pub mod Calls
