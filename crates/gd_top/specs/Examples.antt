-- Worked examples of runs, to be computed.
pub mod Toy
pub mod ToyRuns
pub mod Reports
pub mod Cuts
pub mod Alterations
pub mod Clearing
pub mod OverProduct
