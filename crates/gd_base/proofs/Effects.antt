-- What an entry makes of a view that is itself, field by field.
pub mod Shared
pub mod Money
pub mod Conditions
pub mod Orders
pub mod Plays
