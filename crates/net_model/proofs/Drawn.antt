-- Values of the definitions at configurations and queries drawn at random, each worked out apart from them.
mod Classes
mod FaultOrders
mod Faults
mod Lookups
mod MoreFaults
mod MoreWalks
mod Retails
mod Steps
mod Walks
