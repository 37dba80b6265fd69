-- Where the bytes of a log stand in its buffer, and how long the text of a record can be.
pub mod Room
