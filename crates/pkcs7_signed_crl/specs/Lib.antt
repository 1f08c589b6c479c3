pub mod Algorithms
pub mod SignerParts
pub mod Certificates
pub mod Revoked
pub mod CertificateLists
pub mod Revocations
pub mod PartsEqual
pub mod laws
