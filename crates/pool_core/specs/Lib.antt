pub mod Deques
pub mod Pools
pub mod Refusals
pub mod Steps
pub mod History
pub mod Shadow
pub mod Law
pub mod Kept
