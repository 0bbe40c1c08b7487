-- Laws that belong to no one function.
pub mod Finding
pub mod Agreeing
pub mod Gathering
pub mod Offering
pub mod OneWay
