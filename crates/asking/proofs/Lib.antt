-- Laws that belong to no one function, each after those it rests on.
pub mod Questions
pub mod Answering
pub mod Determined
pub mod Capped
pub mod Examples
