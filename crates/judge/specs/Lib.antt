-- What the parts of the test say, then the laws that put them together.
pub mod Parts
pub mod Sharing
pub mod DecideLaws
pub mod MoreLaws
pub mod SharingLaws
pub mod MarkLaws
pub mod RouteLaws
pub mod ValidLaws
