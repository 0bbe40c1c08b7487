-- Decimals, words and lines as bytes.
pub mod Text
