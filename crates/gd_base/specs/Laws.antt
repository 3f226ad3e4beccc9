-- What is proved of histories, answers, books, indexes and payloads. Each is the contract of a function of src/laws.
pub mod Books
pub mod Indexes
pub mod Exact
pub mod WholeHistory
pub mod OneView
pub mod TellsViews
pub mod Preserved
pub mod ListsIn
pub mod Spelling
