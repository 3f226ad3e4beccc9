-- How a payload spells a view: its bytes, how they are read, and the rules that a view keeps.
pub mod Bytes
pub mod Reading
pub mod Spelled
pub mod ViewRules
pub mod LoadedView
pub mod ViewCode
pub mod Lists
pub mod Recorded
pub mod ListsIn
pub mod Spelling
pub mod Loading
