-- Laws that belong to no one function.
pub mod Bits
pub mod Inclusion
pub mod Meeting
pub mod Goodness
pub mod Lowest
pub mod Growing
