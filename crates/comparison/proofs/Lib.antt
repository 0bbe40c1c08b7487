-- Laws that belong to no one function: what the steps and the loops of the code keep, and the theorems over the call.

-- the code
pub mod Asking
pub mod Standing
pub mod Proposing
pub mod Spelling
pub mod Dealing
pub mod Running
-- the call
pub mod CompareDetermined
pub mod CompareHonest
pub mod CompareRoom
pub mod CompareLessRoom
-- the one-way question
pub mod Joining
pub mod WithinDetermined
pub mod WithinHonest
pub mod WithinRoom
-- the proved answers of the scope, §11.2
pub mod KnownCalls
