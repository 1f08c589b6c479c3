use Rattle.std.proofs.Common.{◌≡◌, map, drop}
use Rattle.x509_base.specs.Extensions.{extension_value}
use Rattle.pkcs7_verifier.specs.KeyIdentifiers.{extension_with}
use Rattle.pkcs7_verifier.proofs.key_identifiers.first_extension.Given as goal

abbrev pub invariant-loop-extension : goal.invariant-loop-extension
invariant-loop-extension l = extension_with l.oid (map extension_value (drop l.extension-index l.extensions)) ≡ extension_with l.oid (map extension_value l.extensions)
