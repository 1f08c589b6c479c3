-- Laws of `Enumerations.antt`.
use Rattle.std.specs.Prelude.{◌≡◌, ◌^◌, ◌<◌, ℕ, Bool, List, [], ◌∷◌, true, false, ltb, if◌then◌else◌}
use Rattle.std.proofs.Common.{arith, refl, sym, ap, ◌∙◌, subst, inl, inr}
use Rattle.std.proofs.lemmas.Bool.{ltb-true}
use Rattle.std.specs.Int.Digits.{number_from_digits}
use Rattle.asn1_core_element.specs.laws.NumberLaws.{one_number, is_numeral, has_number, number_integer_octets}
use Rattle.asn1_core_element.specs.declared.error.Error.{Error}
use Rattle.asn1_core_element.specs.declared.error.Error.TheVariants.{Invalid}
use Rattle.asn1_core_format.specs.Leaf.{IsSpelled, SpellsNone}
use Rattle.asn1_core.specs.Der.{IsLawful, lawful_leaf, numbers_below}
use Rattle.asn1_module_leaves.specs.Enumerations.{IsNoneOf, IsOneOf, all_low, enumerated_in, numbers_in}

pub not_both : (ms : List ℕ) (n : ℕ) → IsNoneOf ms n → IsOneOf ms n → ⊥
not_both [] n a o = o
not_both (m ∷ ms) n a (inl e) = a.0 e
not_both (m ∷ ms) n a (inr o) = not_both ms n a.1 o

low_if : (b c : Bool) → (if b then c else false) ≡ true → (b ≡ true) × (c ≡ true)
low_if true c e = (refl, e)
low_if false c e = cc

pub is_low : (ms : List ℕ) (n : ℕ) → all_low ms ≡ true → IsOneOf ms n → n < 2 ^ 8
is_low [] n l o = absurd o
is_low (m ∷ ms) n l (inl e) = omega (arith, e, ltb-true m (2 ^ 8) (low_if (ltb m (2 ^ 8)) (all_low ms) l).0)
is_low (m ∷ ms) n l (inr o) = is_low ms n (low_if (ltb m (2 ^ 8)) (all_low ms) l).1 o

pub lawful_enumerated_in : (ms : List ℕ) → all_low ms ≡ true → IsLawful (enumerated_in ms)
lawful_enumerated_in ms low = lawful_leaf 0x0A (omega arith) (numbers_in ms) (record {
  one_value = λ v w h i e. one_number v w e;
  spelled = λ v h. (is_numeral (2 ^ 8) v (is_low ms v low h), subst (IsOneOf ms) (sym (number_integer_octets v)) h);
  has_value = λ c h.
      let v = has_number (2 ^ 8) c h.0 in
      (v.0, v.1, subst (IsOneOf ms) (ap (number_from_digits 256) v.1 ∙ number_integer_octets v.0) h.1);
})

-- contents that spell no number below 256 spell none of these
pub spells_none_in : (ms : List ℕ) → all_low ms ≡ true → (c : List ℕ) (e : Error) → SpellsNone (numbers_below (2 ^ 8)) c e → SpellsNone (numbers_in ms) c e
spells_none_in ms low c e s = record {
  kind = s.kind;
  none = λ m v h i. s.none m v (is_low ms v low h) i;
}

-- nor do those of another number
pub spells_another : (ms : List ℕ) (c : List ℕ) (n : ℕ) → IsSpelled (numbers_below (2 ^ 8)) c n → IsNoneOf ms n → SpellsNone (numbers_in ms) c Invalid
spells_another ms c n s a = record {
  kind = λ e. cc;
  none = λ m v h i. not_both ms n a (subst (IsOneOf ms) (one_number v n (sym i ∙ s.is)) h);
}
