pub mod ParcelRoutes
