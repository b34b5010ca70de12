pub use Rattle.graph_form.specs.GraphOf
pub use Rattle.graph_form.specs.Verdict
pub use Rattle.net_model.specs.Shown
pub mod Rewrites
pub mod Answers
