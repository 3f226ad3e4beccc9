-- Words for the code: how a run stands, what a part of the code did, and what a trial is at a moment.
pub mod Falls
pub mod LinesDone
pub mod Memory
pub mod Named
pub mod OverImage
pub mod Parts
pub mod SoakDone
pub mod Standing
