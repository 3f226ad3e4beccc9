pub mod Histories
pub mod Judging
pub mod Moving
pub mod Rules
pub mod PlayMachine
