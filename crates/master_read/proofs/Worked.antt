-- Worked values of the definitions. Each is a theorem: a false one stops the check.
pub mod Words
mod TypeWords
mod Codes
mod ClassWords
mod Directives
mod Fronts
mod Owners
mod RecordTtls
mod RecordFaults
mod Counting
mod Files
mod IncludedFiles
