pub mod ClassLaws
pub mod ClassLists
pub mod ComparedTrees
pub mod Endings
pub mod JudgedScopes
pub mod HandedChecks
pub mod HeldViews
mod KeptPieces
mod NameLists
pub mod OneClassList
pub mod OneEntry
pub mod OneOutcome
pub mod OneReport
mod PrintedLines
pub mod Places
pub mod Rechecked
pub mod SameWords
mod ScopeTexts
pub mod ShownClasses
pub mod SiteViews
pub mod TwoReadings
mod Watched
