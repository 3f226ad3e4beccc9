-- The definition of a run computes its examples.
pub mod Reports
pub mod Cuts
pub mod Alterations
pub mod Clearing
pub mod OverProduct
