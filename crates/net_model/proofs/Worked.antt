-- Worked values of the definitions. Each is a theorem: a false one stops the check.
mod ExampleZone
mod Classes
mod Dependencies
mod Existence
mod Faults
mod Wildcards
mod Cuts
mod OpenTails
mod Redirections
mod Aliases
mod Rewrites
mod StandardQueries
mod Tails
mod Referrals
