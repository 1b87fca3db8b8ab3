pub mod Alls
pub mod Tables
pub mod FirstFaults
