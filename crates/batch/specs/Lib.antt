-- How much waits in the rooms, what is lent, and how long the text of an answer can be.
pub mod Room
pub mod Lending
pub mod DigitLaws
