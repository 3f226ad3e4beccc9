pub mod PutPieces
pub mod WordWidths
pub mod PlayImage
pub mod RowSteps
