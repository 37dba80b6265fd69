-- The parts of the contracts of operation 27, and the laws of its loop over pages.
pub mod Parts
pub mod HeldLaws
