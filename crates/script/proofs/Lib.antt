-- What is proved of the reader.
pub mod Worked
