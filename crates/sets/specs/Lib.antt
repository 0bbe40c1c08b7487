-- Sets of states, and the two rooms.
pub mod Sets
pub mod Rooms
