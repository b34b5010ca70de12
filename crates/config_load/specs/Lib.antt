pub use Rattle.dns_data.specs.Name
pub use Rattle.io_edges.specs.Counts
pub use Rattle.io_edges.specs.Files
pub use Rattle.master_read.specs.Codes as TextCodes
pub use Rattle.master_read.specs.ZoneText
pub use Rattle.meta_read.specs.Codes as MetaCodes
pub use Rattle.meta_read.specs.Metadata
pub use Rattle.zone_rules.specs.Codes as RuleCodes
pub use Rattle.zone_rules.specs.ZoneOf
pub mod Faults
pub mod Joined
pub mod Limits
pub mod Reading
pub mod Servers
pub mod Conf
pub mod RowRead
pub mod Refusal
pub mod Load
pub mod Follows
pub mod Sources
pub mod Fed
pub mod ReadFiles
pub mod Hosted
pub mod Earlier
pub mod RowZones
pub mod FileName
pub mod Taken
pub mod Skipped
pub mod Left
