-- Laws that belong to no one function: what a host is promised, and that every export is determined.
pub mod Promises
pub mod Determined
