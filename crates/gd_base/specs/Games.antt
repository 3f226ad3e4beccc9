-- What the recorded words of a play decide, and in which stage a play stands.
pub mod Chance
pub mod Stage
