pub mod Budgets
pub mod CountedNames
pub mod JudgedTrees
mod LiveNexts
pub mod PassedNames
