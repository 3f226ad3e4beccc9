-- The definition of a run, and parts of the code against it.
pub mod Joins
pub mod Legal
pub mod Stays
pub mod Equations
pub mod Parts
pub mod Said
pub mod Standings
pub mod Answered
pub mod Cuts
pub mod OffersAt
pub mod Resolved
pub mod Handed
pub mod Calm
