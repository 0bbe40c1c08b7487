-- What the question of an evidence file is answered, and what `check` prints; then what only the inner functions cite.
pub mod Checking
pub mod Inner
