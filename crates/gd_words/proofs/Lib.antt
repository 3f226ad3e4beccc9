mod Meanings
mod Numbers
mod Taken
mod TableRows
