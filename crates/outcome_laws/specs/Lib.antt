pub use Rattle.graph_form.specs.Report
pub use Rattle.groot_run.specs.Outcome
pub use Rattle.net_model.specs.Nearest
pub use Rattle.query_verdicts.specs.Carried
pub use Rattle.query_verdicts.specs.Subjects
pub mod Parts
