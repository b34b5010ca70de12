mod LeafFirst
mod OctetSums
mod Worked
mod WorkedDigests
