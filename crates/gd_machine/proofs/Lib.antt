mod Acted
mod CashOut
mod Empty
mod Entries
mod Faults
mod Flags
mod Kept
mod Lists
mod PlaysBegun
mod PlaysMoved
mod PlaysRoom
mod PlaysSettled
mod Printed
mod Refusals
pub mod Telling
mod Turns
mod Wholes
