pub mod DottedTexts
pub mod DoubleColon
mod Drawn
pub mod Exact
pub mod Groups
pub mod HexTokens
pub mod Hexadecimal
pub mod Named
pub mod PieceTexts
pub mod Pieces
pub mod PlainTexts
pub mod Seconds
pub mod StandardFacts
pub mod StartOfAuthority
pub mod Strings
pub mod TimeTexts
pub mod TwoSides
mod Worked
