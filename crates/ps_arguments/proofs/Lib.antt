pub mod Asked
pub mod ByRows
