pub mod Run
pub mod Script
pub mod Report
pub mod Code
pub mod Claims
pub mod Examples
