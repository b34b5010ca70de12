pub mod Codes
pub mod Numbers
pub mod Times
pub mod Addresses
pub mod Texts
pub mod Forms
pub mod AddressTexts
pub mod TimeTexts
