pub mod EachOnce
pub mod SlotNames
pub mod Forms
pub mod Unopened
