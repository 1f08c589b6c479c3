pub mod Ocsp201388
