pub mod AnsweredRows
mod RowsBefore
mod FirstCopies
mod HeldFound
mod ListedNames
mod NamingLists
mod PlainFiles
mod OneOutcome
pub mod ColumnTexts
pub mod Endings
pub mod ReachedViews
pub mod SeenRows
pub mod ShownOrigins
mod TwoTypes
mod Worked
