-- Laws of `SignedSets.antt`.
use Rattle.asn1_core.specs.Asn1.{SEQUENCE}
use Rattle.std.specs.Prelude.{◌≡◌, List, [], ◌∷◌, None, Some, map}
use Rattle.std.proofs.Common.{refl}
use Rattle.asn1_core.specs.Der.{each}
use Rattle.x509_base.specs.Names.{attribute}
use Rattle.pkcs7_attributes.specs.Attributes.{attributes}
use Rattle.pkcs7_attributes.specs.SignedSets.{IsRetagged, attributes_as_set, some_attributes}

pub set_is_retagged : (vs : List attribute.Value) → IsRetagged (attributes.format.text vs) (attributes_as_set.text vs)
set_is_retagged vs = record { contents = (each (SEQUENCE attribute).format).text vs; own = refl; as_set = refl }

pub no_attributes_there : {T : Type 0} (f : T → attribute.Value) (xs : List T) → xs ≡ [] → None ≡ some_attributes (map f xs)
no_attributes_there f [] e = refl
no_attributes_there f (x ∷ xs) e = absurd (let n : x ∷ xs ≡ [] = e in cc)

pub attributes_there : {T : Type 0} (f : T → attribute.Value) (xs : List T) → (xs ≡ [] → ⊥) → Some (map f xs) ≡ some_attributes (map f xs)
attributes_there f [] n = absurd (n refl)
attributes_there f (x ∷ xs) n = refl
