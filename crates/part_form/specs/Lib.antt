pub use Rattle.graph_form.specs.FirstFaults
pub use Rattle.meta_read.specs.Members
pub use Rattle.report_json.specs.Report as ReportTexts
pub mod PartText
pub mod Places
pub mod Stated
pub mod Merging
pub mod Held
pub mod Written
