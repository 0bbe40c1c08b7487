-- Laws that belong to no one function.
pub mod Laws
pub mod Growth
pub mod Deciding
pub mod Passes
pub mod Computed
pub mod UpTo
pub mod Examples
