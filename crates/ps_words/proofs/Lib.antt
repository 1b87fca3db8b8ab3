pub mod Orders
pub mod ReasonNumbers
