pub mod Verdicts
pub mod UnsupportedJson
pub mod ReportJson
pub mod Lists
pub mod Reported
pub mod FindingLines
pub mod LastLine
pub mod Reports
