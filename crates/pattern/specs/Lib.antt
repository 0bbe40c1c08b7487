-- Patterns: what they are, which are refused and what that means, their language, one language within another, and the judging of one sequence.
pub mod Pattern
pub mod Lent
pub mod Tests
pub mod Refusals
pub mod Language
pub mod Inclusion
pub mod Judge
