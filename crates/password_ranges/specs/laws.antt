pub mod PasswordRoutes
pub mod SaltKinds
