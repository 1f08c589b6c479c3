use Rattle.std.specs.Prelude.{map}
use Rattle.std.proofs.Common.{ap, refl}
use Rattle.asn1_core.specs.Der.{option_value}
use Rattle.signed_writers.proofs.ReadParts.{empty_set}
use Rattle.x509_base.specs.Names.{attribute_value}
use Rattle.signed_writers.proofs.signers.read_attributes.Goals as goal

pub returns-then-has_none : goal.returns-then-has_none
returns-then-has_none c =
    ((λ e. cc, λ m h. empty_set _ c.in-Some.octets.now (ap (option_value (λ o. o.now)) c.in-Some.is) (map attribute_value c.in_ok-set.set.0.items) c.in_ok-set.ensures (c.has_none.ensures.0 c.if-has_none.true) h), refl)
