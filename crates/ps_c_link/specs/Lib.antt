pub mod Libraries
pub mod Rooms
pub mod Answers
pub mod WhyUnmade
pub mod Dones
pub mod Outcomes
