pub mod PartsLemmas
mod Ascii
mod Digits
mod NameText
mod HexDigits
mod FirstSeparator
mod ListParsing
mod AtMostOneQueue
