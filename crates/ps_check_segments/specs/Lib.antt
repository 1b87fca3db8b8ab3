pub mod Paths
pub mod SegmentParts
pub mod Seen
pub mod SeenSegments
pub mod SeenFacts
