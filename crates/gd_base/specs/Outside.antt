-- Sources, sinks and blocks of random words.
pub mod Causes
pub mod InMemory
pub mod KeyStream
pub mod Blocks
