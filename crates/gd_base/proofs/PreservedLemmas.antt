-- Rules of a view that one entry more keeps.
pub mod Widths
pub mod Places
pub mod Sums
pub mod Order
pub mod Counts
pub mod Handpay
pub mod OnlyOneOpen
pub mod PlayRules
pub mod Bounds
pub mod Moved
pub mod Plays
pub mod AfterPlays
pub mod MostAdded
pub mod Notes
pub mod Preserved
