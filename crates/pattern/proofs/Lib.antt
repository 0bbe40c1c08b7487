-- Laws that belong to no one function.
pub mod Validity
pub mod Refusals
pub mod Steps
pub mod Picking
pub mod Unions
pub mod Words
pub mod Inclusion
pub mod Following
pub mod Judging
