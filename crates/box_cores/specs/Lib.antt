-- Boxes, and what the entries give for them.
pub mod Boxes
pub mod CoreLaws
pub mod Given
