-- Worked values of the definitions. Each is a theorem: a false one stops the check.
pub mod Words
mod Times
mod TimeTexts
mod Numbers
mod Addresses
mod AddressTexts
mod Texts
mod Forms
mod Faults
mod Generic
