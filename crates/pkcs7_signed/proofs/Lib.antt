pub mod SignerTests
pub mod SignerReads
