pub mod OidTestLaws
pub mod OidTextLaws
pub mod OidValueLaws
