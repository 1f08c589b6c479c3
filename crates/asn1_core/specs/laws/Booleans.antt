-- Laws of `Booleans.antt`.
use Rattle.std.specs.Prelude.{◌≡◌, ◌↔◌, ℕ, Bool, true, false, not, List, [], ◌∷◌}
use Rattle.std.specs.Str.{bytes_eq}
use Rattle.std.proofs.Common.{refl, sym, ap, inl, inr, arith, ◌&&◌}
use Rattle.std.proofs.lemmas.Bool.{false_from_ne_true, and_parts}
use Rattle.std.proofs.lemmas.Slice.Eq.{bytes_eq-Decides}
use Rattle.asn1_core_element.specs.Element.{element}
use Rattle.asn1_core_element.specs.laws.ElementLaws.{element_same}
use Rattle.asn1_core_format.specs.Format.{IsLawful}
use Rattle.asn1_core_format.specs.laws.LeafLaws.{lawful_leaf}
use Rattle.asn1_core_format.specs.Omitted.{is_default, IsDefault}
use Rattle.asn1_core.specs.Booleans.{boolean, boolean_octets, booleans, explicit_false}

one_boolean : (v w : Bool) → boolean_octets v ≡ boolean_octets w → v ≡ w
one_boolean true true e = refl
one_boolean true false e = cc
one_boolean false true e = cc
one_boolean false false e = refl

spelled : (v : Bool) → booleans.IsContents (boolean_octets v)
spelled true = inr refl
spelled false = inl refl

has_boolean : (c : List ℕ) → booleans.IsContents c → (v : Bool) × (c ≡ boolean_octets v) × Unit {0}
has_boolean c (inl e) = (false, e, tt)
has_boolean c (inr e) = (true, e, tt)

pub lawful_boolean : IsLawful boolean
lawful_boolean = lawful_leaf 0x01 (omega arith) booleans (record {
  one_value = λ v w h i e. one_boolean v w e;
  spelled = λ v h. spelled v;
  has_value = has_boolean;
})

not_false : element 0x01 (0xFF ∷ []) ≡ explicit_false → ⊥
not_false e = let c = (element_same 0x01 0x01 (0xFF ∷ []) (0x00 ∷ []) e).1 in cc

pub is_false : (v : Bool) → not v ≡ is_default boolean explicit_false v
is_false false = sym (ap (λ b. b && true) ((bytes_eq-Decides explicit_false explicit_false).1 refl))
is_false true = sym (ap (λ b. b && true) (false_from_ne_true (bytes_eq (element 0x01 (0xFF ∷ [])) explicit_false) (λ h. not_false ((bytes_eq-Decides _ explicit_false).0 h))))

false_text : (v : Bool) → (is_default boolean explicit_false v ≡ true) ↔ (boolean.text v ≡ explicit_false)
false_text false = (λ e. refl, λ e. sym (is_false false))
false_text true = (λ e. (bytes_eq-Decides _ explicit_false).0 (and_parts _ _ e).0, λ e. absurd (not_false e))

pub false_left_out : IsDefault (is_default boolean explicit_false) explicit_false boolean
false_left_out = record { element = (0x01, 0x00 ∷ [], refl, refl); normal = λ k v s. (0x00 ∷ [], refl, inl refl); exact = λ k v h. false_text v }
