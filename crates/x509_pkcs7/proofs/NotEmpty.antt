-- A list whose pieces are put together, and that has an item.
use Rattle.std.specs.Prelude.{◌≡◌, ◌≢◌, ℕ, ◌<◌, List, [], length, get_or, map}
use Rattle.std.proofs.Common.{ap, ◌∙◌, arith}
use Rattle.std.proofs.lemmas.List.{nil_from_length, length-map}
use Rattle.std.proofs.lemmas.List.Folds.{length-flat_map-take}
use Rattle.std.specs.List.{flat_map}
use Rattle.asn1_core.specs.declared.raw.Asn1RawDer.{Asn1RawDer}
use Rattle.pkcs7_signed.specs.declared.signers.UnsignedAttribute.{UnsignedAttribute}
use Rattle.x509_pkcs7.specs.Nested.{nested_in}

-- where all pieces together are empty, each is
pub piece_empty : {X Y : Type 0} (f : X → List Y) (xs : List X) (i : ℕ) (x : X) → i < length xs → x ≡ get_or xs i x → flat_map f xs ≡ [] → f x ≡ []
piece_empty f xs i x h g e = nil_from_length (f x) (omega (arith, length-flat_map-take f xs i x h, ap (λ y. length (f y)) g, ap length e))

pub map_empty : {X Y : Type 0} (f : X → Y) (xs : List X) → map f xs ≡ [] → xs ≡ []
map_empty f xs e = nil_from_length xs (omega (arith, length-map xs f, ap length e))

-- an attribute that has nested signatures, among all
pub some_nested : (all attributes : List UnsignedAttribute) (i : ℕ) (a : UnsignedAttribute) (elements : List Asn1RawDer) → attributes ≡ all → i < length attributes → a ≡ get_or attributes i a → map (λ e. e.0.items) elements ≡ nested_in a → elements ≢ [] → flat_map nested_in all ≢ []
some_nested all attributes i a elements w h g is some none = some (map_empty (λ e. e.0.items) elements (is ∙ piece_empty nested_in attributes i a h g (ap (flat_map nested_in) w ∙ none)))
