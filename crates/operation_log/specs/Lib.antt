-- The operation log: what its records say, and the laws of reading and writing them.
pub mod KindLaws
pub mod Kinds
pub mod Log
pub mod Logs
pub mod LogLaws
pub mod StepLaws
