pub mod Judges
pub mod Told
