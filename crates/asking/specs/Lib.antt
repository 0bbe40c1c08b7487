-- What the question of a pattern file is answered, and what is left in all that is lent.
pub mod Asking
