-- Laws of `Attributes.antt`.
use Rattle.std.proofs.Common.{arith}
use Rattle.asn1_core.specs.Asn1.{SEQUENCE}
use Rattle.asn1_core.specs.Der.{empty_left_out, is_default, IsDefault}
use Rattle.x509_base.specs.Names.{attribute}
use Rattle.pkcs7_attributes.specs.Attributes.{attributes, no_attributes}

pub no_attributes_left_out : IsDefault (is_default attributes.format no_attributes) no_attributes attributes.format
no_attributes_left_out = empty_left_out 0xA0 (omega arith) (SEQUENCE attribute).format (SEQUENCE attribute).law
