-- What an answer tells of an event, and when each comes.
pub mod Answer
pub mod Exact
