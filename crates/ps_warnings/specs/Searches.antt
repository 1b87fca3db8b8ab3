-- How a check searches for what it warns of: what the private functions compute, step by step. No
-- contract of another crate cites these files: it says in the words of `Warned` and `WarnedFiles` what
-- is found. The laws of this crate say that the two are the same.
pub mod RecordFindings
pub mod EntryFindings
pub mod LinkFindings
pub mod FileFindings
pub mod AllFindings
