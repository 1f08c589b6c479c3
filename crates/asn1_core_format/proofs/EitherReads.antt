-- Reading a choice by tag.
use Rattle.std.proofs.Common.{◌≡◌, ◌≢◌, ◌⊎◌, ℕ, List, ◌++◌, inl, inr}
use Rattle.asn1_core_element.specs.Position.{Position}
use Rattle.asn1_core_element.specs.declared.error.Error.{Error}
use Rattle.asn1_core_element.specs.declared.error.Error.TheVariants.{Memory}
use Rattle.asn1_core_format.specs.Format.{Format, IsLawful, HasRefused}
use Rattle.asn1_core_format.specs.Nexts.{NextIs}
use Rattle.asn1_core_format.specs.laws.Formats.{begins_next, next_distinct}
use Rattle.asn1_core_format.specs.Eithers.{either}

module _ {V W : Type 0} (F : Format V) (G : Format W) (f : IsLawful F) (g : IsLawful G) (distinct : (t : ℕ) → F.IsTag t → G.IsTag t → ⊥) (k : ℕ) where
  -- where the next tag is one of F's, no encoding of G begins there
  no_second : {l : List ℕ} {e : Error} → NextIs F.IsTag l → (e ≢ Memory → (taken rest : List ℕ) (v : V) → l ≡ taken ++ rest → F.Reads k taken v → ⊥) → e ≢ Memory → (taken rest : List ℕ) (x : V ⊎ W) → l ≡ taken ++ rest → (either F G).Reads k taken x → ⊥
  no_second n none m taken rest (inl v) s r = none m taken rest v s r
  no_second {l} n none m taken rest (inr w) s r = next_distinct F.IsTag G.IsTag l distinct n (inr (taken, rest, s, g.element k taken w r))

  -- and where it is none of them, no encoding of F does
  no_first : {l : List ℕ} {e : Error} → (NextIs F.IsTag l → ⊥) → (e ≢ Memory → (taken rest : List ℕ) (w : W) → l ≡ taken ++ rest → G.Reads k taken w → ⊥) → e ≢ Memory → (taken rest : List ℕ) (x : V ⊎ W) → l ≡ taken ++ rest → (either F G).Reads k taken x → ⊥
  no_first {l} n none m taken rest (inl v) s r = n (begins_next F.IsTag taken rest l (f.element k taken v r) s)
  no_first n none m taken rest (inr w) s r = none m taken rest w s r

  pub first_refused : {old new : Position} {e : Error} → NextIs F.IsTag old.left → HasRefused F k old new e → HasRefused (either F G) k old new e
  first_refused {old} {new} {e} n u = record { kind = u.kind; none = no_second {e = e} n u.none; counts = u.counts; at_most = u.at_most }

  pub second_refused : {old new : Position} {e : Error} → (NextIs F.IsTag old.left → ⊥) → HasRefused G k old new e → HasRefused (either F G) k old new e
  second_refused {old} {new} {e} n u = record { kind = u.kind; none = no_first {e = e} n u.none; counts = u.counts; at_most = u.at_most }
