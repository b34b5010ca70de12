pub mod AnswersShown
pub mod Wholly
pub mod Laws
