-- The page sets tested by whole words: definitions, then laws of words, of a column's words and of pages.
pub mod Columns
pub mod WordLaws
pub mod ColumnLaws
pub mod PageLaws
pub mod EachLaws
