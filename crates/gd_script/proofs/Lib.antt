mod Numbers
mod SplitLemmas
mod Found
mod HoldBits
mod Firsts
mod NameTables
mod OneField
mod EventLines
mod ItemLines
mod TextOfWords
mod WholeLines
pub mod GeneratedItems
