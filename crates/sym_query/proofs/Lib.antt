mod AnswersOfTypes
mod Owners
mod Tails
