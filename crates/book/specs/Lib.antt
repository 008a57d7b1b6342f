pub mod Answer
pub mod Entries
pub mod Fault
pub mod Kept
pub mod Kind
pub mod Layout
pub mod Trailer
