pub mod RawSigned
