-- `==` is equality of what the values contain.
pub use Rattle.pkcs7_content.specs.Contents.{encapsulated_content_info_equal}
