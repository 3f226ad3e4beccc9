-- The items of a soak, and the whole of it.
pub mod Items
pub mod Opened
pub mod Calm
pub mod Told
