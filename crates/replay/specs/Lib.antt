-- Replay: the records of a log, carried out.
pub mod Replay
pub mod Run
pub mod RunLaws
