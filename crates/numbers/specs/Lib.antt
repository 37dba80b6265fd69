-- What the machine's numbers mean.
pub mod CaseLaws
pub mod Decides
pub mod DecidesLaws
pub mod Limits
pub mod Meaning
pub mod MeaningLaws
pub mod Packing
pub mod PackingLaws
