-- Laws that belong to no one function.
pub mod Validity
pub mod Refusing
pub mod Starting
pub mod Meaning
pub mod Determined
pub mod CheckHonest
pub mod Examples
