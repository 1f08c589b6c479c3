-- What reading gives where the next tag says whether an element is of a type, or any other.
use Rattle.std.proofs.Common.{◌≡◌, ◌≢◌, ℕ, List, ◌++◌, sym, subst, inl, inr, Result, Err}
use Rattle.std.specs.Prelude.{◌⊎◌}
use Rattle.asn1_choices.specs.laws.ByTag.{with_tag, any_tag, not_both}
use Rattle.asn1_choices.specs.KnownOrRaw.{known_or_raw}
use Rattle.asn1_core.specs.Der.{ElementOctets, Format, IsLawful, raw, Position, HasRead, HasRefused, Gives, NextIs, begins_next}
use Rattle.asn1_core_element.specs.declared.error.Error.{Error}
use Rattle.asn1_core_element.specs.declared.error.Error.TheVariants.{Memory}

module _ {V : Type 0} (F : Format V) (f : IsLawful F) (k : ℕ) {old new : Position} {e : Error} where
  none_known : NextIs F.IsTag old.left → HasRefused F k old new e → e ≢ Memory → (taken rest : List ℕ) (v : V ⊎ ElementOctets) → old.left ≡ taken ++ rest → (known_or_raw F).Reads k taken v → ⊥
  none_known n g m taken rest (inl v) s r = g.none m taken rest v s r
  none_known n g m taken rest (inr c) s r = not_both F.IsTag old.left n (begins_next (λ t. F.IsTag t → ⊥) taken rest old.left r.1 s)

  pub known_refused : NextIs F.IsTag old.left → HasRefused F k old new e → HasRefused (known_or_raw F) k old new e
  known_refused n g = record { kind = g.kind; none = none_known n g; counts = g.counts; at_most = g.at_most }

  none_raw : (NextIs F.IsTag old.left → ⊥) → HasRefused raw k old new e → e ≢ Memory → (taken rest : List ℕ) (v : V ⊎ ElementOctets) → old.left ≡ taken ++ rest → (known_or_raw F).Reads k taken v → ⊥
  none_raw n g m taken rest (inl v) s r = n (begins_next F.IsTag taken rest old.left (f.element k taken v r) s)
  none_raw n g m taken rest (inr c) s r = g.none m taken rest c s (r.0, any_tag r.1)

  pub raw_refused : (NextIs F.IsTag old.left → ⊥) → HasRefused raw k old new e → HasRefused (known_or_raw F) k old new e
  raw_refused n g = record { kind = g.kind; none = none_raw n g; counts = g.counts; at_most = g.at_most }

module _ {V : Type 0} (F : Format V) (k : ℕ) {old new : Position} where
  pub raw_has_read : {c : List ℕ} → (NextIs F.IsTag old.left → ⊥) → HasRead raw k old new c → HasRead (known_or_raw F) k old new (inr c)
  raw_has_read n t = record {
    taken = t.taken;
    split = t.split;
    reads = (t.reads.0, with_tag (λ u. F.IsTag u → ⊥) t.reads.1 (λ i. n (begins_next F.IsTag t.taken new.left old.left (with_tag F.IsTag t.reads.1 i) t.split)));
    beyond = t.beyond;
    end = t.end;
    refused = t.refused;
    at_least = t.at_least;
    at_most = t.at_most;
  }

-- an answer that is an error
pub has_refused : {T V : Type 0} (value : T → V) (F : Format V) (k : ℕ) {old new : Position} {r : Result T Error} {e : Error} → ((x : Error) × (r ≡ Err x) × (x ≡ e)) → HasRefused F k old new e → Gives value F k old new r
has_refused value F k {old} {new} p g = subst (Gives value F k old new) (sym p.1) (subst (HasRefused F k old new) (sym p.2) g)
