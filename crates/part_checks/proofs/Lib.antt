mod Claimed
mod ConsistentParts
mod LeavingNames
mod LeftWhole
mod Meets
mod Passing
mod Prefixes
mod Refusals
mod Rules
mod SeenZones
mod ServerNames
mod ShorterNames
pub mod SkippedZones
mod TakenZones
