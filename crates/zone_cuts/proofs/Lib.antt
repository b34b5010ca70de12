pub mod OrderedCuts
mod RecordsFound
