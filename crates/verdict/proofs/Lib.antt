-- Laws that belong to no one function.
pub mod Ordered
pub mod Each
pub mod Rest
pub mod Numbered
pub mod Lines
pub mod Flags
pub mod Refusals
