-- What maps, ports and slots say by parts, and what their proofs share.
pub mod Parts
pub mod PortLaws
