-- Which stages can be open, and which choices they allow.
pub mod Stages
pub mod Turns
pub mod FirstChoice
pub mod MostWin
