pub use Rattle.graph_form.specs.Report
pub use Rattle.meta_read.specs.Members
pub use Rattle.net_model.specs.Shown
pub use Rattle.plain_resolver.specs.Passed
pub use Rattle.report_json.specs.Report as ReportTexts
pub mod Checked
pub mod Counted
pub mod Entries
pub mod Laws
pub mod ReportIn
pub mod RightEntries
pub mod Steps
pub mod WalkFaults
