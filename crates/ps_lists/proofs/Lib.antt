pub mod Items
pub mod Places
pub mod Deciders
pub mod Tests
