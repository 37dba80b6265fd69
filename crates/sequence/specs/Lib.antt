-- The sequence over a header and its lists, and its laws.
pub mod RoomLaws
pub mod Run
pub mod RunLaws
