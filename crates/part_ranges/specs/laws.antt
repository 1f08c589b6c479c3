pub mod EnvelopeRoutes
pub mod Enveloped
