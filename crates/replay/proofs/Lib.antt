-- What is proved of replay.
pub mod Pieces
pub mod Places
pub mod ReplayRows
pub mod ReplaySecret
