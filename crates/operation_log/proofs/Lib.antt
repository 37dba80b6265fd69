-- What is proved of the log.
pub mod KindNumbers
pub mod ReadWritten
pub mod Worked
