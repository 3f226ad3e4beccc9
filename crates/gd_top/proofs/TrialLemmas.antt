-- A whole trial.
pub mod MadeMemory
pub mod FromMaking
pub mod WholeRun
pub mod Told
pub mod Ends
