pub mod ReadSegments
pub mod ReadNames
pub mod RequestedNames
pub mod EachFault
pub mod OneName
