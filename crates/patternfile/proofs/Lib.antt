-- Laws that belong to no one function, each after those it rests on.
pub mod Passing
pub mod Judging
pub mod Contents
pub mod Filling
pub mod Storing
pub mod Refusals
pub mod Determined
pub mod RoundTrip
pub mod Places
pub mod Returned
pub mod Longest
pub mod Examples
