pub mod EachRun
pub mod TableRows
pub mod Reported
pub mod SaidWhole
