pub mod Sentences
pub mod SlotLines
pub mod SegmentLines
pub mod OverviewText
pub mod FileLines
pub mod SmallOverviews
