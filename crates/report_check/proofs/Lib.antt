mod CountedQueries
pub mod EntrySteps
pub mod FewWalks
pub mod HopsInside
pub mod InOrder
pub mod NamedQueries
pub mod OneAnswer
pub mod ReportRead
pub mod Represented
pub mod RightByWalks
pub mod Searched
pub mod Shallow
pub mod TwoWalks
pub mod WalkShows
mod WalkSteps
mod Worked
