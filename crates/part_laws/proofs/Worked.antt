mod Conditions
mod OneDelegation
