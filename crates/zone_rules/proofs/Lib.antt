pub mod Sets
pub mod Places
pub mod Rivals
pub mod SeenRecords
pub mod Before
pub mod FirstFaults
pub mod Wildcards
pub mod ZonesWithin
pub mod KeptRules
pub mod OwnFaults
mod Worked
