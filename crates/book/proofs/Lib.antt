pub mod Events
pub mod Firsts
pub mod Keeping
pub mod Parts
pub mod Readings
pub mod Shapes
