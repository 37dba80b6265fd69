-- Bounded tables of packed words: definitions first, then the invariants of loops and the laws.
pub mod Scan
pub mod Table
pub mod Tests
pub mod Loops
pub mod BlockLaws
pub mod ScanLaws
pub mod RepeatLaws
pub mod TableLaws
pub mod AgreeLaws
