pub mod Finds
pub mod UnderWay
