-- What replay gives for a box.
pub mod Given
pub mod GivenLaws
