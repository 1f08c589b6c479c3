-- Laws of `UnsignedAttributes.antt`.
use Rattle.std.proofs.Common.{arith}
use Rattle.asn1_core.specs.Asn1.{SEQUENCE}
use Rattle.asn1_core.specs.Der.{empty_left_out, is_default, IsDefault}
use Rattle.x509_base.specs.Names.{attribute}
use Rattle.pkcs7_attributes.specs.UnsignedAttributes.{no_unsigned_attributes, raw_unsigned_attributes}

pub no_unsigned_attributes_left_out : IsDefault (is_default raw_unsigned_attributes.format no_unsigned_attributes) no_unsigned_attributes raw_unsigned_attributes.format
no_unsigned_attributes_left_out = empty_left_out 0xA1 (omega arith) (SEQUENCE attribute).format (SEQUENCE attribute).law
