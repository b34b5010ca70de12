pub mod FileRead
pub mod ReportsRead
pub mod Endings
pub mod MergedRun
pub mod PartEnds
pub mod PartLimits
pub mod PartRun
