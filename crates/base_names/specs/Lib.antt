pub use Rattle.net_model.specs.Reading
pub use Rattle.label_graph.specs.Pairs
pub mod Base
