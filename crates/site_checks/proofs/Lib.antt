mod AlikeTypes
mod EqualEnds
mod GoingOn
mod InOrder
mod Lines
mod ListedEnds
mod NodesAfter
pub mod OneViews
mod SearchSteps
pub mod Seen
mod WalksEnd
mod WorkedFindings
