-- What an access reads and writes.
pub mod Words
