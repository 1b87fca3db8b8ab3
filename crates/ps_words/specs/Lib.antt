pub mod Words
pub mod Edits
pub mod FaultText
pub mod FaultPlaces
