pub mod Disk
pub mod FilesByName
pub mod Loops
pub mod Memory
pub mod Passing
pub mod Told
