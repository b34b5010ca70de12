-- Values of the definitions at words, entries and texts drawn at random, each worked out apart from them.
mod TypeWords
mod ClassWords
mod Directives
mod Entries
mod Files
