-- The event names.
pub mod Events
