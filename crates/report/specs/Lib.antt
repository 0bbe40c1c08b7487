-- What `compare` prints; then what only the inner functions cite.
pub mod Report
pub mod Inner
