-- Laws of `KeyIdentifiers.antt`.
use Rattle.asn1_core.specs.Asn1.{SEQUENCE}
use Rattle.std.proofs.Common.{arith}
use Rattle.asn1_core.specs.Der.{IsLawful, lawful_within}
use Rattle.x509_base.specs.Extensions.{extensions}
use Rattle.pkcs7_verifier.specs.KeyIdentifiers.{explicit_extensions}

pub lawful_explicit_extensions : IsLawful explicit_extensions
lawful_explicit_extensions = lawful_within (SEQUENCE extensions).format (SEQUENCE extensions).law.components 0xA3 (omega arith)
