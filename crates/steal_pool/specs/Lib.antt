pub mod Rule
pub mod Rows
pub mod Ends
pub mod Slots
pub mod Faults
pub mod Runs
pub mod Finish
