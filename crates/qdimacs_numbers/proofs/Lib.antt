pub mod Flags
pub mod Counts
pub mod Numbers
pub mod Words
pub mod Free
