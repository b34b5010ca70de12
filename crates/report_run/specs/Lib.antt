pub use Rattle.run_endings.specs.Endings
pub mod Budgets
pub mod Counted
pub mod Judged
