-- What is proved of boxes: for caches of any form, then of slots.
pub mod BoxesExact
pub mod BoxesFree
pub mod BoxesKept
pub mod BoxesSecret
pub mod SlotBoxes
