pub mod BagRoutes
