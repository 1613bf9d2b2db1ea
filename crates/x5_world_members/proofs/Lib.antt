pub mod ByParts
pub mod Failing
pub mod Growing
pub mod Items
pub mod LastRdn
pub mod Owned
pub mod Placed
pub mod Spelled
