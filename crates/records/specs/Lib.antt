-- Numbers in bytes, and their laws.
pub mod JoinLaws
pub mod LibraryLaws
pub mod Little
pub mod LittleLaws
