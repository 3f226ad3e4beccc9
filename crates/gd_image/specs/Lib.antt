pub mod Outside
pub mod Read
pub mod Places
pub mod Plays
pub mod Words
