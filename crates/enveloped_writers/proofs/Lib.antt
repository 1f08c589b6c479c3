pub mod Sequences
pub mod RecipientVersions
pub mod RecipientTexts
pub mod Envelopes
