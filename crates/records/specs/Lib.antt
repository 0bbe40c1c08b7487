-- The answers as a host reads them, the comparison and the one-way question over a list of records, records offered; then what only the functions beneath the exports cite.
pub mod Answers
pub mod Records
pub mod Offers
pub mod Inner
