-- A stream read or written piece by piece; a text cut at its first line feed; the keys of a table;
-- words of digits.
pub mod Pieces
pub mod Lengths
pub mod Spaces
pub mod Splitting
pub mod Keys
pub mod NumberedLines
pub mod FirstByte
pub mod Numerals
pub mod Parts
