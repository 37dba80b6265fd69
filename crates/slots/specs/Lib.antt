-- What slot records mean, and what is done with one cache of them.
pub mod CallLaws
pub mod Calls
pub mod SlotLaws
pub mod Slots
