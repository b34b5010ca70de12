pub use Rattle.config_load.specs.Conf
pub use Rattle.zone_maker.specs.Source
