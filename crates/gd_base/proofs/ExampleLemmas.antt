-- Worked examples, by computation.
pub mod Chance
pub mod Histories
pub mod Texts
pub mod Payloads
pub mod FullHistory
pub mod Loading
pub mod Premises
