pub mod Lists
pub mod Printed
pub mod ReadFaults
pub mod Statuses
pub mod Causes
pub mod Failures
pub mod Links
pub mod Told
