-- Past a Time that may be absent, of which the tag is one of two: past one tag, and past the other.
use Rattle.std.specs.Prelude.{◌≡◌, ℕ, Bool, true, false, List, [], ◌∷◌, ◌+◌, length, Option, None, Some}
use Rattle.std.proofs.Common.{refl, sym, ◌∙◌, subst, inl, inr, ⊎_elim, arith}
use Rattle.asn1_core_format.specs.Asn1.{Distinct, all_distinct, distinct_if, not_distinct_part, one_later, ◌OPTIONAL◌}
use Rattle.asn1_core_format.specs.Components.{optional}
use Rattle.asn1_core_format.specs.Format.{Format, IsLawfulComponents, are_distinct}
use Rattle.asn1_core_format.specs.laws.Format.{distinct_tags}
use Rattle.asn1_core_format.specs.Nexts.{NextIs}
use Rattle.asn1_core_format.specs.laws.Formats.{begins_next, next_distinct}
use Rattle.asn1_located.specs.Finding.{Found, follows_part}
use Rattle.asn1_located.specs.laws.Finding.{found_on}
use Rattle.asn1_located.specs.Places.{HasFirst, Leads}
use Rattle.asn1_located.specs.Routes.{Mark}
use Rattle.asn1_located.specs.declared.walks.Step.TheVariants.{Past}
use Rattle.x509_base.specs.Times.{time}

first_of : (S : ℕ → Type 0) (x : List ℕ) → NextIs S x → (t : ℕ) × S t × HasFirst t x
first_of S [] h = absurd h
first_of S (t ∷ x) h = (t, h, (x, refl))

next_is : (tag : ℕ) (S : ℕ → Type 0) (x : List ℕ) → S tag → HasFirst tag x → NextIs S x
next_is tag S x s h = subst (NextIs S) (sym h.1) s

one_first : (t u : ℕ) (x : List ℕ) → HasFirst t x → HasFirst u x → t ≡ u
one_first t u x (y, e) (z, f) = let same : t ∷ y ≡ u ∷ z = sym e ∙ f in cc

module _ {W : Type 0} (R : Format W) (r : IsLawfulComponents R) (distinct : (t : ℕ) → time.format.IsTag t → R.IsTag t → ⊥) where
  stays : (tag : ℕ) → time.format.IsTag tag → (k m : ℕ) (x : List ℕ) (w : W) → R.Reads k x w → Leads (Past tag) m x m x
  stays tag is k m x w s = inr (λ h. next_distinct time.format.IsTag R.IsTag x distinct (next_is tag time.format.IsTag x is h) (r.begins k x w s), (refl, refl))

  past_time_found : (k m : ℕ) (x : List ℕ) (p : Option time.Value × W) → (optional time.format R).Reads k x p → Found (Past 0x17 ∷ Past 0x18 ∷ []) m x (λ z. R.Reads k z p.1)
  past_time_found k m x (None, w) s = (m, x, (m, x, stays 0x17 (inl refl) k m x w s, (m, x, stays 0x18 (inr refl) k m x w s, (refl, refl))), s)
  past_time_found k m x (Some v, w) s =
      let f = first_of time.format.IsTag x (begins_next time.format.IsTag s.0 s.1 x (time.law.element k s.0 v s.3) s.2) in
      let over = follows_part time.format R time.law k m x (v, w) s in
      let n = m + length s.0 in
      ⊎_elim
      (λ (e : f.0 ≡ 0x17). (n, s.1, (n, s.1, inl (subst (λ t. HasFirst t x) e f.2, over), (n, s.1, stays 0x18 (inr refl) k n s.1 w s.4, (refl, refl))), s.4))
      (λ (e : f.0 ≡ 0x18). (n, s.1, (m, x, inr (λ h. omega (arith, e, one_first f.0 0x17 x f.2 h), (refl, refl)), (n, s.1, inl (subst (λ t. HasFirst t x) e f.2, over), (refl, refl))), s.4))
      f.1

later : (t : Distinct) → one_later t ≡ all_distinct → t ≡ all_distinct
later all_distinct e = refl
later (not_distinct_part n) e = cc

both_distinct : (b : Bool) (t : Distinct) → distinct_if b t ≡ all_distinct → (b ≡ true) × (t ≡ all_distinct)
both_distinct true t e = (refl, later t e)
both_distinct false t e = cc

pub past_found : (r : Mark) → (time OPTIONAL r.components).distinct ≡ all_distinct → (k : ℕ) (v : Option time.Value × r.components.Value) (w : r.part.Value) → r.IsPart v.1 w → (m : ℕ) (x : List ℕ) → (time OPTIONAL r.components).format.Reads k x v → Found (Past 0x17 ∷ Past 0x18 ∷ r.steps) m x (λ y. r.part.format.Reads k y w)
past_found r e k v w o m x s =
    let d = both_distinct (are_distinct time.format r.components.format) r.components.distinct e in
    found_on (Past 0x17 ∷ Past 0x18 ∷ []) r.steps m x (λ z. r.components.format.Reads k z v.1) (λ y. r.part.format.Reads k y w)
    (past_time_found r.components.format (r.components.law d.1) (distinct_tags time.format r.components.format d.0) k m x v s)
    (λ n y t. r.found d.1 k v.1 w o n y t)

-- an OPTIONAL Time before the marked component
abbrev pub past_time : Mark → Mark
past_time r = record { components = time OPTIONAL r.components; part = r.part; steps = Past 0x17 ∷ Past 0x18 ∷ r.steps; IsPart = λ v w. r.IsPart v.1 w; found = past_found r }
