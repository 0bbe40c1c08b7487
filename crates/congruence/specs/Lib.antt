-- Congruence, what closing a set yields, and bisimulation up to congruence.
pub mod Congruence
pub mod Lent
pub mod Closing
pub mod Progress
