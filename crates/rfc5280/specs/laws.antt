pub mod Pkix1Implicit88
