pub mod Failed
pub mod Linked
pub mod ListsPrinted
pub mod Unread
