-- Words that are read, written and read again.
pub mod Words
