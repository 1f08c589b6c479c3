-- Attributes of a bag or of a signer (RFC 5652, 5.3), and those with one value.
use Rattle.std.specs.Prelude.{ℕ, List, [], ◌∷◌, Option, None, Some}
use Rattle.asn1_core.specs.Asn1.{Asn1, SEQUENCE}
use Rattle.asn1_core.specs.Der.{Format, OidOctets}
use Rattle.x509_base.specs.Names.{attribute}

abbrev pub ATTRIBUTE : Asn1
ATTRIBUTE = SEQUENCE attribute

abbrev pub attribute_text : attribute.Value → List ℕ
attribute_text = ATTRIBUTE.format.text

abbrev pub is_formed : attribute.Value → Type 0
is_formed = ATTRIBUTE.format.IsWellFormed 64

-- an attribute of that type with one value, if there is one
abbrev pub alone : {V : Type 0} → OidOctets → Format V → Option V → List attribute.Value
alone type F None = []
alone type F (Some x) = (type, (F.text x ∷ [], tt)) ∷ []
