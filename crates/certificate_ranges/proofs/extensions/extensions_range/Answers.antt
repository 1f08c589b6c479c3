use Rattle.std.specs.Prelude.{◌≡◌, None, map}
use Rattle.std.specs.List.{find}
use Rattle.std.proofs.Common.{ap, subst}
use Rattle.certificate_ranges.proofs.ExtensionPlaces.{extensions_at}
use Rattle.certificate_ranges.specs.Certificates.{octets_in}
use Rattle.pkcs7_verifier.specs.Heads.{certificate_head_value}
use Rattle.pkcs7_verifier.specs.KeyIdentifiers.{has_tag}
use Rattle.certificate_ranges.proofs.extensions.extensions_range.Goals as goal

pub returns-in-Some : goal.returns-in-Some
returns-in-Some c =
    extensions_at c.args.input.now (certificate_head_value c.args.head.now) (map octets_in c.deref.result.now) c.in-Some.element c.in_element.result c.requires
    (ap (map octets_in) c.deref.ensures.value) c.in-Some.ensures c.in_element.ensures

pub returns-in-None : goal.returns-in-None
returns-in-None c = subst (λ xs. find (has_tag 0xA3) (map octets_in xs) ≡ None) c.deref.ensures.value c.in-None.ensures
