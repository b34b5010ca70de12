pub use Rattle.part_laws.specs.Part
pub use Rattle.part_names.specs.PartNames
pub use Rattle.query_classes.specs.Rows
pub mod OwnNames
