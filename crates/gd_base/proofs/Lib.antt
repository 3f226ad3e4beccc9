pub mod BoolTests
pub mod ViewFacts
pub mod AnswerLemmas
pub mod BooksLemmas
pub mod HistoryLemmas
pub mod StageLemmas
pub mod PayloadLemmas
pub mod Effects
pub mod PreservedLemmas
mod OutsideLemmas
mod TextLemmas
mod ExampleLemmas
