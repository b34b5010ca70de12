mod Drawn
mod Representatives
mod Showing
mod ShownBy
pub mod Words
mod Worked
pub mod AllWalks
pub mod Branches
pub mod Counting
pub mod Descent
pub mod EndsSomewhere
pub mod FaultOrder
pub mod FirstLabel
pub mod Followed
pub mod InForce
pub mod ItemsInOrder
pub mod JoinedNames
pub mod Leads
pub mod LearntSets
pub mod Naming
pub mod NearestZones
pub mod OneClass
pub mod OpenTails
pub mod Prefixes
pub mod RoundsExist
pub mod StepBounds
pub mod TreeParts
pub mod TrialOrder
pub mod WalkEnds
pub mod WalkLists
