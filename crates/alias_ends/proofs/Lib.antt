mod EndsAtOnce
pub mod KnownAnswers
pub mod AliasWords
mod TypesAlike
