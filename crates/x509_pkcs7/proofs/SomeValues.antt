-- There are values of attributes, since one has some.
use Rattle.std.specs.Prelude.{◌≡◌, ◌≢◌, ℕ, ◌<◌, List, [], ◌++◌, length, get_or, map}
use Rattle.std.proofs.Common.{sym, ap, ◌∙◌, arith}
use Rattle.std.proofs.lemmas.List.{length-map, get_or-map, nil_from_length, length-append}
use Rattle.asn1_core.specs.Der.{OidOctets}
use Rattle.asn1_core.specs.declared.raw.Asn1RawDer.{Asn1RawDer}
use Rattle.x509_base.specs.Names.{attribute_value}
use Rattle.x509_base.specs.declared.names.Attribute.{Attribute}
use Rattle.x509_pkcs7.proofs.NotEmpty.{piece_empty, map_empty}
use Rattle.x509_pkcs7.specs.RawAttributes.{values_if, values_with}

pub some_value : (oid : OidOctets) (attributes : List Attribute) (i : ℕ) (a : Attribute) (elements : List Asn1RawDer) → i < length attributes → a ≡ get_or attributes i a → map (λ e. e.0.items) elements ≡ values_if oid (attribute_value a) → elements ≢ [] → values_with oid (map attribute_value attributes) ≢ []
some_value oid attributes i a elements h g is some none =
    let at : attribute_value a ≡ get_or (map attribute_value attributes) i (attribute_value a) = ap attribute_value g ∙ sym (get_or-map attribute_value attributes i a (attribute_value a) h) in
    let inside : i < length (map attribute_value attributes) = omega (arith, h, length-map attributes attribute_value) in
    some (map_empty (λ e. e.0.items) elements (is ∙ piece_empty (values_if oid) (map attribute_value attributes) i (attribute_value a) inside at none))

pub first_is_not_empty : {X : Type 0} (xs ys : List X) → xs ≢ [] → xs ++ ys ≢ []
first_is_not_empty xs ys some none = some (nil_from_length xs (omega (arith, length-append xs ys, ap length none)))

pub second_is_not_empty : {X : Type 0} (xs ys : List X) → ys ≢ [] → xs ++ ys ≢ []
second_is_not_empty xs ys some none = some (nil_from_length ys (omega (arith, length-append xs ys, ap length none)))
