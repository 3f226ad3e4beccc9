-- What is given in part, and the words of a key stream.
pub mod Fronts
pub mod KeyStream
