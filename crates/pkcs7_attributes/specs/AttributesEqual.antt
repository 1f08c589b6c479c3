-- `==` is equality of what the values contain.
pub use Rattle.pkcs7_attributes.specs.Attributes.{attributes_equal}
