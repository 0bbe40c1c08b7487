-- Laws that belong to no one function, each after those it rests on.
pub mod Asking
pub mod Reporting
pub mod Determined
pub mod Capped
pub mod Meaning
pub mod Examples
