-- A script as its lines, and kinds of items.
pub mod Lines
pub mod LineTaken
pub mod Kinds
pub mod Asked
