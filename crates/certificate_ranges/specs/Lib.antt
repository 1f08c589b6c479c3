pub mod Certificates
pub mod CertificateRoutes
pub mod Indices
pub mod KeyInfos
pub mod Ranges
