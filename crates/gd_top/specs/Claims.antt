-- What the public calls claim.
pub mod AllRules
pub mod ImageRuns
pub mod Images
pub mod MemoryLeft
pub mod NothingLost
pub mod OneHistory
pub mod Program
pub mod Refusals
pub mod Runs
pub mod Setups
pub mod Soak
