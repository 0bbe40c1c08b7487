-- One number in seven-bit groups, files of such numbers, where reading them stops, and what the code answers.
pub mod Numbers
pub mod Format
pub mod Faults
pub mod Told
