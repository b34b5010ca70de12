-- A query and the name that stands in its place: below one name both have unnamed labels.
pub mod AlikeSteps
pub mod AlikeWalks
pub mod ClassTails
pub mod QueryWalks
pub mod OpenBack
pub mod OpenWalks
pub mod UnnamedTails
