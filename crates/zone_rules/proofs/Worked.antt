-- Worked values of the definitions. Each is a theorem: a false one stops the check.
pub mod Words
mod Origins
mod Identical
mod Soas
mod Stars
mod Aliases
mod Redirections
