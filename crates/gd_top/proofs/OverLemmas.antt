-- Runs over an image, as runs over a laboratory.
pub mod Clearings
pub mod Disks
pub mod Items
pub mod Lines
pub mod Openings
pub mod Parts
pub mod Runs
pub mod Told
