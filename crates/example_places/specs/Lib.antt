pub mod ParcelRoutes
pub mod laws
