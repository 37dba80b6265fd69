-- What a line of a box script means, and how it is read byte by byte.
pub mod Lines
pub mod Steps
pub mod WordLaws
pub mod LineLaws
pub mod BadLaws
