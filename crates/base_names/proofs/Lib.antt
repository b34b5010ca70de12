pub mod JoinedBase
pub mod ZoneNames
