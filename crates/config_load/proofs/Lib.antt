pub mod Answered
pub mod ConsistentServers
pub mod Directories
pub mod Follows
pub mod OpenedFiles
pub mod Opens
pub mod OwnRefusals
pub mod ReadRows
pub mod ServerPlaces
pub mod Sources
pub mod ShortFiles
pub mod Steady
pub mod Steps
mod KnownLeft
mod KnownRows
mod LeftAnswers
mod LeftRows
mod ReadAgain
mod SmallerLimits
mod TakenRows
mod Worked
pub mod RowsRead
pub mod SkippedRows
pub mod ZonesGiven
