mod Numbers
pub mod UnfailingFiles
mod Worked
