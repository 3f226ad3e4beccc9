pub mod Rows
pub mod OfViews
pub mod Testing
pub mod Played
pub mod Told
pub mod Restored
