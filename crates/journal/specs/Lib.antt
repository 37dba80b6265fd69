-- The log for C, and replay over a box of slots.
pub mod Given
pub mod GivenLaws
pub mod ReplayLaws
