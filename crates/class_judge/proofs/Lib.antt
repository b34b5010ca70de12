pub mod WholeConfigs
