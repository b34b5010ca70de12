mod ClapLine
mod ClapRows
mod ClapSteps
pub mod Parsed
pub mod StatedNumbers
mod Worked
