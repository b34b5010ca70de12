-- Values of the definitions at texts and tokens drawn at random, each worked out apart from them.
mod Times
mod Numbers
mod Addresses
mod Texts
mod Data
mod OtherData
