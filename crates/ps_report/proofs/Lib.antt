pub mod Verdicts
pub mod Texts
pub mod SegmentTexts
pub mod FindingLines
pub mod LastLine
pub mod Findings
pub mod Items
pub mod Reports
