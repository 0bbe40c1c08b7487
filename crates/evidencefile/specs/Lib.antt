-- The evidence file, what reading and writing one promise, what their answers mean, and what the parts of the reader promise.
pub mod EvidenceFile
pub mod Reader
pub mod Writer
pub mod Refusals
pub mod Meaning
pub mod Parts
