pub mod Files
pub mod Expected
pub mod Texts
pub mod Segments
pub mod ReadAlike
pub mod Refused
