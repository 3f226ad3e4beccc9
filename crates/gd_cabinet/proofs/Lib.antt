mod Cutting
mod Moments
mod OneEvent
mod PagesMoved
pub mod Showing
mod WholeOpenings
