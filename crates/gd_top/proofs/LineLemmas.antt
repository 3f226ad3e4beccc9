-- Lines one after another.
pub mod Counted
pub mod Exits
pub mod Alike
pub mod Steps
