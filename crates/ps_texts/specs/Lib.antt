pub mod UnitNames
pub mod CodeTypes
pub mod Kinds
pub mod Texts
pub mod Unmade
pub use Rattle.ps_check_segments.specs.Paths
pub use Rattle.ps_resolve.specs.Sources
