pub mod Matching
pub mod Plain
pub mod Sound
pub mod State
pub mod Tally
pub mod Spells
