pub mod Copies
pub mod Drawn
pub mod Replaced
