-- Laws that belong to no one function, each after those it rests on.
pub mod Groups
pub mod RoundTrip
pub mod Faults
pub mod Faulted
pub mod TenBytes
pub mod Worth
pub mod Taking
pub mod Examples
pub mod ReaderLoop
pub mod WriterLoops
pub mod ListLoops
pub mod Formats
pub mod Parts
pub mod Steps
pub mod Reach
pub mod Places
