-- What is said of faults and of the slots that have them.
pub mod Phrases
pub mod Slots
