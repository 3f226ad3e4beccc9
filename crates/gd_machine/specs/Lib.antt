pub mod Words
pub mod Meaning
pub mod Acts
pub mod Restoring
pub mod Settling
