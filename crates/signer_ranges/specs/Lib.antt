pub mod SignerRoutes
pub mod Signers
pub mod Files
pub mod SignerRows
pub mod Pieces
pub mod laws
