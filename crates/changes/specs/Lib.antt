-- How many words the states have.
pub mod Words
