pub mod Enveloped
