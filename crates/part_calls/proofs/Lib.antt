pub mod SignerRows
pub mod CertificateRows
pub mod Listed
pub mod CopiedParts
pub mod MacRanges
pub mod MacNumbers
pub mod BerMacs
