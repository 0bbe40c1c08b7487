-- What the comparison answers and leaves, what its theorems speak of, the known answers; the same of the one-way question; and what only the private functions cite.
pub mod Answers
pub mod Meaning
pub mod Known
pub mod Inclusion
pub mod InclusionMeaning
pub mod Inner
