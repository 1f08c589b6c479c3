-- Laws of `EmptySets.antt`.
use Rattle.std.specs.Prelude.{◌≡◌, ◌↔◌, ℕ, ◌≤◌, Bool, true, false, ◌&&◌, IsTrue, List, [], ◌∷◌, ◌++◌, length}
use Rattle.std.specs.List.{flat_map}
use Rattle.std.specs.Str.{bytes_eq}
use Rattle.std.proofs.Common.{refl, sym, ap, ◌∙◌, arith, length-append, true≢false}
use Rattle.std.proofs.lemmas.Bool.{false_from_ne_true, and_parts, lt-leb}
use Rattle.std.proofs.lemmas.Slice.Eq.{bytes_eq-Decides}
use Rattle.asn1_core_element.specs.Element.{element, IsTagByte}
use Rattle.asn1_core_element.specs.laws.ElementLaws.{element_cut}
use Rattle.asn1_core_format.specs.Format.{Format, IsLawful, IsLawfulComponents}
use Rattle.asn1_core_format.specs.laws.Formats.{text_some}
use Rattle.asn1_core_format.specs.Lists.{each}
use Rattle.asn1_core_format.specs.laws.ListLaws.{lawful_each}
use Rattle.asn1_core_format.specs.Omitted.{is_default, IsDefault}
use Rattle.asn1_core_format.specs.laws.Omitted.{lawful_omitted}
use Rattle.asn1_core_format.specs.Components.{nothing, within}
use Rattle.asn1_core_format.specs.laws.ComponentLaws.{lawful_nothing, lawful_within}
use Rattle.asn1_core_format.specs.EmptySets.{is_nil, set_or_none}

is_empty_same : {V : Type 0} (tag : ℕ) (F : Format V) → is_default (within tag (each F)) (element tag []) [] ≡ true
is_empty_same tag F = ap (λ b. b && true) ((bytes_eq-Decides (element tag []) (element tag [])).1 refl)

and_false : (a b : Bool) → b ≡ false → (a && b) ≡ false
and_false true b e = e
and_false false b e = refl

-- a set of items, each an element at least, is left out where it is empty
pub empty_alone : {V : Type 0} (tag : ℕ) (F : Format V) (vs : List V) (b : Bool) → ((v : V) → 1 ≤ F.least v) → (IsTrue b ↔ (vs ≡ [])) → b ≡ is_default (within tag (each F)) (element tag []) vs
empty_alone tag F [] b some is = is.1 refl ∙ sym (is_empty_same tag F)
empty_alone tag F (v ∷ vs) b some is = false_from_ne_true b (λ e. (let h = is.0 e in cc)) ∙ sym (and_false (bytes_eq (element tag (flat_map F.text (v ∷ vs))) (element tag [])) _ (lt-leb ((within tag (each F)).least (v ∷ vs)) 1 (omega (arith, some v))))

module _ {V : Type 0} (tag : ℕ) (t : IsTagByte tag) (F : Format V) (f : IsLawful F) where
  some_text : (k : ℕ) (v : V) (vs : List V) → (within tag (each F)).IsWellFormed k (v ∷ vs) → element tag (flat_map F.text (v ∷ vs)) ≡ element tag [] → ⊥
  some_text k v vs h e =
      let n : F.text v ++ flat_map F.text vs ≡ [] = (element_cut tag tag (F.text v ++ flat_map F.text vs) [] [] [] (ap (λ x. x ++ []) e)).1 in
      omega (arith, ap length n, length-append (F.text v) (flat_map F.text vs), text_some F f k (F.text v) (F.normal v) (f.components.text_reads k v h.0))

  exact : (k : ℕ) (vs : List V) → (within tag (each F)).IsWellFormed k vs → (is_nil vs ≡ true) ↔ (element tag (flat_map F.text vs) ≡ element tag [])
  exact k [] h = (λ e. refl, λ e. refl)
  exact k (v ∷ vs) h = (λ e. absurd (true≢false (sym e)), λ e. absurd (some_text k v vs h e))

  pub empty_default : IsDefault is_nil (element tag []) (within tag (each F))
  empty_default = record { element = (tag, [], refl, refl); normal = λ k v s. ([], refl, ([], refl, tt)); exact = exact }

  pub lawful_set_or_none : IsLawfulComponents (set_or_none tag F)
  lawful_set_or_none = lawful_omitted is_nil (element tag []) (within tag (each F)) nothing (lawful_within (each F) (lawful_each F f) tag t) lawful_nothing empty_default (λ u h e. e)

  -- the empty set is what is left out
  empty_exact : (k : ℕ) (vs : List V) → (within tag (each F)).IsWellFormed k vs → (is_default (within tag (each F)) (element tag []) vs ≡ true) ↔ (element tag (flat_map F.text vs) ≡ element tag [])
  empty_exact k [] h = (λ e. refl, λ e. is_empty_same tag F)
  empty_exact k (v ∷ vs) h = (λ e. (bytes_eq-Decides (element tag (flat_map F.text (v ∷ vs))) (element tag [])).0 (and_parts _ _ e).0, λ e. absurd (some_text k v vs h e))

  pub empty_left_out : IsDefault (is_default (within tag (each F)) (element tag [])) (element tag []) (within tag (each F))
  empty_left_out = record { element = (tag, [], refl, refl); normal = λ k v s. ([], refl, ([], refl, tt)); exact = empty_exact }
