pub mod Switches
pub mod Tellings
