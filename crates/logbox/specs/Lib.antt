-- How much of a log waits in its room.
pub mod Room
