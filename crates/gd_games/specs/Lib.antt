pub mod Digest
pub mod File
pub mod Kinds
pub mod Plays
pub mod Turns
pub mod Values
