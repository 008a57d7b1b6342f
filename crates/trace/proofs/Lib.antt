pub mod Notes
pub mod Tables
pub mod Tallies
pub mod Words
