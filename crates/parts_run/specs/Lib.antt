pub use Rattle.io_edges.specs.Counts
pub use Rattle.io_edges.specs.Files
pub use Rattle.config_load.specs.Reading as FilesRead
pub use Rattle.run_endings.specs.Endings
pub use Rattle.run_endings.specs.Runs as ProgramRuns
pub use Rattle.run_endings.specs.Writing
pub mod Words
pub mod Reading
pub mod PartTold
pub mod Outcome
pub mod Runs
pub mod Answered
