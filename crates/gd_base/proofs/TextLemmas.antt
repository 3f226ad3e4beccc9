-- Digits and lines.
pub mod Digits
pub mod Lines
