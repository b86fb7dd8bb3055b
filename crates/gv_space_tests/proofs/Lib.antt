pub mod NamedLists
