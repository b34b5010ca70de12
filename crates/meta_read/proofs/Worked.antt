-- Worked values of the definitions. Each is a theorem: a false one stops the check.
pub mod Words
mod Tops
mod Rows
mod Steps
mod Texts
