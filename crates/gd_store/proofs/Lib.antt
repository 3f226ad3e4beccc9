mod Boots
mod Commit
mod CopyMoments
mod Fronts
mod Images
mod Openings
mod PageMoments
mod Pages
mod PagesKept
mod Parts
mod RepairMoments
mod Assembled
pub mod RunLemmas
pub mod Sealed
mod Makings
mod MakingBoots
mod Lent
mod MakingMoments
mod AnyMakings
mod Alterations
pub mod MaskedBoots
