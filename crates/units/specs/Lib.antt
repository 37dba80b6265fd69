-- Units and the spans of regions.
pub mod Spans
pub mod Units
