-- What the theorems say, seen at work: given boxes and rows, computed.
pub mod Refusals
pub mod RefusalOrder
pub mod SecrecyWorked
pub mod SecrecyNeeded
pub mod SecrecySetWorked
