-- The pattern file, what reading and writing one promise, what their answers mean, and what the parts of both promise.
pub mod PatternFile
pub mod Reader
pub mod Writer
pub mod Refusals
pub mod Meaning
pub mod Parts
