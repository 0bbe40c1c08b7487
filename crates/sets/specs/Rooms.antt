-- The two rooms: the largest that may be asked for, and the one of a call that names none. `States::MAX_ROOM` and `States::DEFAULT_ROOM` are these numbers.
use Rattle.std.specs.Prelude.{ℕ}

abbrev pub max_room : ℕ
max_room = 1024

abbrev pub default_room : ℕ
default_room = 1024
