pub mod Counts
pub mod DiskFiles
pub mod Files
pub mod MemoryFiles
pub mod MemorySink
pub mod OutSink
pub mod NamedFiles
pub mod Passed
