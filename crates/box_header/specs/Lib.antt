-- The machine header as numbers alone, as it crosses to C.
pub mod HeaderLaws
pub mod Numbers
pub mod PieceLaws
pub mod UnitLaws
pub mod PutLaws
