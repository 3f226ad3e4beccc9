-- What a history is and what is seen of it: entries, and everything that is a sum over them, the latest of them or the last n of them.
pub mod Numbers
pub mod View
pub mod Entry
pub mod History
pub mod Rounds
pub mod Credit
pub mod Meters
pub mod Conditions
pub mod Devices
pub mod Recall
pub mod ViewOf
