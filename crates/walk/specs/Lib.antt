-- The walk, a list of records column by column, what the theorems over the walk speak of, the one-way question, and the known answers.
pub mod Walk
pub mod Columns
pub mod Meaning
pub mod Inclusion
pub mod Known
