mod ArmsRefer
mod DelegationsShown
mod FlaggedBranches
