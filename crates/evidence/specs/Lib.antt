-- Evidence: a list of pairs that somebody offers, what its check answers, and what the answers mean.
pub mod Evidence
pub mod Lent
pub mod Meaning
