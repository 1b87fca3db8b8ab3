pub mod Alike
pub mod Numbered
pub mod SameSegments
pub mod StoredLines
pub mod Used
