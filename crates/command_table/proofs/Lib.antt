pub mod Numerals
pub mod TextsSeen
