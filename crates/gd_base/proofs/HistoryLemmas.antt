-- The view that moves entry by entry is that of the whole history.
pub mod OneMore
pub mod OneStep
pub mod Totals
pub mod ViewOver
pub mod WholeHistory
pub mod Wins
