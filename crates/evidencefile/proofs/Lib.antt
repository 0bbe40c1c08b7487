-- Laws that belong to no one function, each after those it rests on.
pub mod Sides
pub mod Contents
pub mod Judging
pub mod Filling
pub mod Reading
pub mod Storing
pub mod Refusals
pub mod Determined
pub mod RoundTrip
pub mod Places
pub mod Returned
pub mod Longest
pub mod Examples
