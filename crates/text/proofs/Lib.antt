-- Laws that belong to no one function: of decimals, of the words of a line.
pub mod Decimal
pub mod Lines
