pub use Rattle.part_reports.specs.Reported
pub use Rattle.report_run.specs.Budgets
pub use Rattle.run_endings.specs.Endings
pub mod KeptEntry
pub mod PartWritten
pub mod PartReported
