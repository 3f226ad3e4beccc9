-- How an event is judged and answered, by the view alone, and which histories are legal.
pub mod Rule
pub mod Draws
pub mod Machine
pub mod Legal
pub mod Answer
pub mod Product
