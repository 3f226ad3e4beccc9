-- Bytes and lines.
pub mod Pieces
pub mod Scripts
pub mod Reading
