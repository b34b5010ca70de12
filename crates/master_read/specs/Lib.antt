pub use Rattle.dns_data.specs.Name
pub use Rattle.master_lex.specs.Kinds
pub use Rattle.master_lex.specs.Pieces
pub use Rattle.master_lex.specs.Contents
pub use Rattle.master_lex.specs.Lexer
pub use Rattle.rdata_forms.specs.Codes as DataCodes
pub mod Words
pub mod Context
pub mod Fault
pub mod Codes
pub mod Directives
pub mod Entries
pub mod ZoneText
pub mod Reader
pub mod Steps
