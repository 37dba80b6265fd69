-- What decoding a row gives.
pub mod RowLaws
