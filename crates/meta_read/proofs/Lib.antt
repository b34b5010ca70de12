pub mod Each
pub mod FewRows
pub mod OwnFaults
pub mod Single
pub mod Values
pub mod Strings
mod Worked
pub mod RowByRow
