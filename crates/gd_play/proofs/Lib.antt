pub mod Fresh
mod Held
