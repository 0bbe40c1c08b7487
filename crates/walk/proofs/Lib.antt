-- Laws over the walk: its steps, the method, the theorems, and the known answers.

-- steps: columns and paths grow, candidates lie at the end of their words
pub mod Columns
pub mod Paths
pub mod Sound
pub mod Leading
-- the walk
pub mod WalkUnique
pub mod WalkEnds
pub mod SameMeansSame
pub mod DifferentMeansDifferent
pub mod Counts
pub mod MoreRoom
pub mod LessRoom
pub mod FullExactly
pub mod RoomEnough
-- the one-way question
pub mod Inclusion
-- the proved answers of the scope, §11.2
pub mod Computed
pub mod KnownAnswers
