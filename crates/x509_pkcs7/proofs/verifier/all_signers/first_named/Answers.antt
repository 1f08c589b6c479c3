use Rattle.std.proofs.Common.{map, refl, sym, ap, ◌∙◌}
use Rattle.asn1_core.specs.Der.{option_value}
use Rattle.pkcs7_signed_crl.specs.SignerParts.{signer_identifier_value}
use Rattle.x509_pkcs7.proofs.ByOctets.{first_none, first_some}
use Rattle.x509_pkcs7.specs.AllSigners.{known_value, IsKnownAs, is_named}
use Rattle.x509_pkcs7.proofs.verifier.all_signers.first_named.Goals as goal

pub returns-then-is_named_by : goal.returns-then-is_named_by
returns-then-is_named_by c =
    first_some (IsKnownAs (signer_identifier_value c.args.signer.now)) (is_named c.args.by c.args.octets.now) c.requires.octets (map known_value c.args.known.now) (known_value c.in-Some.first.now.now)
    (sym (c.requires.found c.args.octets.now) ∙ ap (option_value (λ k. known_value k.now)) (sym c.in-Some.ensures.value))
    (c.if-is_named_by.ensures.0 refl)

pub returns-in-None : goal.returns-in-None
returns-in-None c =
    first_none (IsKnownAs (signer_identifier_value c.args.signer.now)) (is_named c.args.by c.args.octets.now) c.requires.octets (map known_value c.args.known.now)
    (sym (c.requires.found c.args.octets.now) ∙ ap (option_value (λ k. known_value k.now)) (sym c.in-None.ensures.value))
