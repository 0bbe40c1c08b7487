-- Laws that belong to no one function: tests that are computed, the names.
pub mod Computed
pub mod Names
