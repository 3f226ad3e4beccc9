-- The lines of a report, and the numbers of the statuses.
pub mod Lines
pub mod AnswerText
pub mod StatusNumber
