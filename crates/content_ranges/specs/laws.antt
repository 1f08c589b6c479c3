pub mod IndirectRoutes
pub mod TrustRoutes
