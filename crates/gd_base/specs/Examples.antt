-- Worked examples, to be computed.
pub mod Chance
pub mod Histories
pub mod Texts
pub mod Payloads
pub mod Loading
pub mod FullHistory
pub mod Premises
