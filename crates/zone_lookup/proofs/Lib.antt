mod CutTables
pub mod CutsInside
pub mod FirstsByName
pub mod Glue
mod GoingAlike
pub mod InsideZones
pub mod Leading
mod LikeTops
pub mod ListedWalks
pub mod NamesAtRest
mod NearestHere
pub mod NearestZones
mod OriginsBefore
mod PlacesNear
mod PutZones
pub mod RedirectionTargets
pub mod ReferralParts
pub mod Replying
mod Rewriting
pub mod SoundReferrals
pub mod TopsHolding
pub mod TypeSets
pub mod ZonesTell
