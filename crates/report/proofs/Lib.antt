-- Laws that belong to no one function, each after those it rests on.
pub mod Lines
pub mod Lengths
pub mod Answered
pub mod Reporting
pub mod Determined
pub mod Capped
pub mod Examples
