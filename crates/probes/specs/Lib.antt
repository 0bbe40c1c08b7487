-- What the probes answer.
pub mod Probes
pub mod Numbers
