mod HeldSets
mod LongestHeld
