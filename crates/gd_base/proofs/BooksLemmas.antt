-- Nothing is lost or made, and no block is used twice.
pub mod Books
pub mod LegalBooks
pub mod Indexes
pub mod Enabled
