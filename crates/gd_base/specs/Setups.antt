-- How a machine is set up: the rules of a setup, the built-in one, and the tables that no setup changes.
pub mod SetupRules
pub mod Tables
pub mod BuiltIn
