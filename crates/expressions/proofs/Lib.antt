-- Laws that belong to no one function.

-- the position construction and its language
pub mod Places
pub mod After
pub mod Glushkov
-- the grammar, and the first fault of a text
pub mod Machine
pub mod Passing
pub mod Faults
pub mod Wording
-- what the readers keep
pub mod Looking
pub mod Links
pub mod Parts
pub mod Marking
pub mod Misses
pub mod Readers
pub mod Refusals
pub mod Rows
pub mod Both
-- the pattern of an answer, and that the contract fixes the answer
pub mod Paths
pub mod Composed
pub mod Determined
pub mod Room
pub mod Meaning
