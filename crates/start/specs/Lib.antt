-- What start is told and leaves, and the laws of its parts.
pub mod Begun
pub mod StartLaws
