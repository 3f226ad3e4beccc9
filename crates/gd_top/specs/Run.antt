-- The definition of a run: what a script, what was found and where the power fell are told to print and to leave. Of the code it names types and constants alone.
pub mod State
pub mod Offers
pub mod Openings
pub mod Items
pub mod Life
pub mod Starts
pub mod Calm
