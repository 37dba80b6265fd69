-- Sets of pages as bits of words: definitions, then laws.
pub mod Bits
pub mod Rows
pub mod Columns
pub mod Pour
pub mod BitLaws
pub mod RowLaws
pub mod WordLaws
pub mod ColumnLaws
pub mod PourLaws
