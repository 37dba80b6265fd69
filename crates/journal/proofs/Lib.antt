-- What replay leaves in a box of slots.
pub mod ReplayKept
