pub mod CommandLine
pub mod Meaning
pub mod Names
pub mod Numbers
pub mod Places
pub mod Rows
pub mod Table
