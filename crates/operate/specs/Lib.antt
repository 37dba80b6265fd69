-- What the joined operation leaves, and one law for each operation that says so list by list.
pub mod Fit
pub mod Outcome
pub mod ArmLaws
