mod AnswersTold
mod DataTold
mod EnoughFiles
mod NotShown
pub mod OrderedItems
mod Redirecting
mod SteadySets
mod TriedOctets
mod Worked
