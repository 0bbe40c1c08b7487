-- Expressions and their language, the position construction, texts and what can be wrong with them, the answer and what its pattern accepts.
pub mod Expressions
pub mod Positions
pub mod Grammar
pub mod Texts
pub mod Answers
pub mod Languages
pub mod Meaning
-- what private functions alone cite
pub mod Scan
pub mod Pieces
pub mod Both
