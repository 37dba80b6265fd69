-- What the region operations' proofs share: the parts of their contracts, then laws.
pub mod Parts
pub mod RegionLaws
