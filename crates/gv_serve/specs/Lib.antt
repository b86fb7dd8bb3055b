pub mod Partial
pub mod DialogueLine
pub mod Dialogue
pub mod DialogueProgress
