pub use Rattle.graph_form.specs.GraphOf
pub use Rattle.graph_form.specs.Verdict
pub use Rattle.net_model.specs.Shown
pub use Rattle.zone_lookup.specs.CutTable
pub mod Delegations
pub mod Referrals
