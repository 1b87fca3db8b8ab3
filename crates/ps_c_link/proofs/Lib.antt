pub mod Indexes
pub mod Refusals
pub mod Summaries
