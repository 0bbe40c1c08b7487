-- What a test says, tests made in order, the lines of the table of refusals, and the refusals of the code by their numbers.
pub mod Verdict
pub mod Tests
pub mod Lines
pub mod Refusals
