pub use Rattle.part_form.specs.PartText
pub mod Writing
