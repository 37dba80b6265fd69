-- Keys by class: definitions first, then the laws of chains, of the table of places, and of what is decided.
pub mod Keys
pub mod ChainLaws
pub mod PlaceLaws
pub mod KeysLaws
