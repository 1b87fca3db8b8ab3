pub mod Patched
pub mod Patcher
