-- What the exports return and leave, and what a host is promised of them.
pub mod Compares
pub mod Inclusions
pub mod Checks
pub mod Judges
pub mod Files
pub mod Texts
pub mod Promises
