pub use Rattle.io_edges.specs.Files
pub use Rattle.io_edges.specs.MemoryFiles
pub mod Drill
pub mod Source
