pub mod Allowed
pub mod Chosen
pub mod Copied
pub mod Documents
pub mod Kept
pub mod Lists
pub mod Pieces
pub mod Turning
