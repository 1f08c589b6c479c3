pub mod SignerRoutes
