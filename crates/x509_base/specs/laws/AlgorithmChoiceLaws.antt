-- The laws of a choice of algorithms.
use Rattle.std.specs.Prelude.{◌≡◌, ◌⊎◌, ◌↔◌, ℕ, ◌≤◌, List, ◌++◌, Option, Some, None, IsSome}
use Rattle.std.proofs.Common.{refl, sym, ap, ◌∙◌, subst, arith, inl, inr}
use Rattle.asn1_core.specs.Der.{element, IsLawfulComponents, IsLoosening, lawful_loosened_components, IsOid}
use Rattle.asn1_choices.specs.Tables.{Table, IsTable}
use Rattle.x509_base.specs.Algorithms.{algorithm_identifier, null, null_written}
use Rattle.x509_base.specs.laws.AlgorithmLaws.{null_is_element, parts_of, same_parts, some_parameters, element_is_some, or_null_formed, null_reread}
use Rattle.x509_base.specs.AlgorithmChoices.{alternative_read, HasAlternativeParameters, alternative_written, algorithm_choice}

some_same : {A : Type 0} {x y : A} → Some x ≡ Some y → x ≡ y
some_same j = cc

some_none : {A : Type 0} {x : A} → Some x ≡ None → ⊥
some_none e = cc

no_alternative : {A : Type 0} {r : Option A} → r ≡ None → IsSome r → ⊥
no_alternative {A} {r} e h = let i : IsSome {T = A} None = subst IsSome e h in cc

module _ {A : Type 0} (T : Table A) (t : IsTable T) where
  proper_at : (r : Option A) (v : algorithm_identifier.Value) → T.alternative_of v.0 ≡ r → (alternative_written T).IsProper (alternative_read r v)
  proper_at (Some a) v e = tt
  proper_at None v e = e

  preserved_at : (k : ℕ) (r : Option A) (v : algorithm_identifier.Value) → T.alternative_of v.0 ≡ r → algorithm_identifier.format.IsWellFormed k v → algorithm_identifier.format.IsWellFormed k ((alternative_written T).written (alternative_read r v))
  preserved_at k (Some a) v e h = (subst IsOid (sym (t.back v.0 a e)) h.0, (null_is_element, tt))
  preserved_at k None v e h = (h.0, (or_null_formed k v.1.0).0 h.1)

  fewer_at : (r : Option A) (v : algorithm_identifier.Value) → (alternative_written T).least (alternative_read r v) ≤ algorithm_identifier.format.least v
  fewer_at (Some a) v = omega arith
  fewer_at None v = omega arith

  -- a known algorithm is what is read where parameters are absent, any other is read from its own encoding
  reached_at : (k : ℕ) (v : A ⊎ algorithm_identifier.Value) → algorithm_identifier.format.IsWellFormed k ((alternative_written T).written v) → (alternative_written T).IsProper v → (a : algorithm_identifier.Value) × algorithm_identifier.format.IsWellFormed k a × ((alternative_written T).read a ≡ v) × (algorithm_identifier.format.least a ≡ (alternative_written T).least v)
  reached_at k (inl a) h i = let o = T.oid_of a in ((o, (None, tt)), (h.0, (tt, tt)), ap (λ r. alternative_read r (o, (None, tt))) (t.there a), refl)
  reached_at k (inr v) h i = (v, (h.0, (or_null_formed k v.1.0).1 h.1), ap (λ r. alternative_read r v) i, refl)

  absent_not_written : (r : Option A) (o : List ℕ) (u : Unit {0}) → (alternative_written T).written (alternative_read r (o, (None, u))) ≡ (o, (None, u)) → ⊥
  absent_not_written (Some a) o u i = some_none (ap (λ x. x.1.0) i)
  absent_not_written None o u i = some_none (ap (λ x. x.1.0) i)

  -- what follows a known object identifier is NULL
  known_null : (a : A) (o q : List ℕ) (w : HasAlternativeParameters T (element 0x06 o ++ q)) → T.alternative_of o ≡ Some a → q ≡ null
  known_null a o q w e =
      let c = same_parts o w.0 q w.1 w.2 in
      c.1 ∙ w.4 (subst IsSome (sym (ap T.alternative_of (sym c.0) ∙ e)) refl)

  chosen_at : (k : ℕ) (b : List ℕ) (r : Option A) (v : algorithm_identifier.Value) → T.alternative_of v.0 ≡ r → algorithm_identifier.format.Reads k b v → (HasAlternativeParameters T b ↔ ((alternative_written T).written (alternative_read r v) ≡ v))
  chosen_at k b r (o, (None, u)) e s =
      let q = parts_of k b (o, (None, u)) s in (
        λ w. absurd (w.3 (sym (same_parts o w.0 q.0 w.1 (sym q.1 ∙ w.2)).1 ∙ q.2)),
        λ i. absurd (absent_not_written r o u i),
      )
  chosen_at k b None (o, (Some x, u)) e s =
      let q = parts_of k b (o, (Some x, u)) s in
      let p = some_parameters k q.0 x q.2 in (
        λ w. refl,
        λ i. (o, q.0, q.1, λ n. element_is_some x p.1 (sym p.0 ∙ n), λ h. absurd (no_alternative e h)),
      )
  chosen_at k b (Some a) (o, (Some x, u)) e s =
      let q = parts_of k b (o, (Some x, u)) s in
      let p = some_parameters k q.0 x q.2 in (
        λ w.
            let n : x ≡ null = sym p.0 ∙ known_null a o q.0 (subst (HasAlternativeParameters T) q.1 w) e in
            ap (λ z. (z, (Some null, tt))) (t.back o a e) ∙ ap (λ z. (o, (Some z, tt))) (sym n),
        λ i. (o, q.0, q.1, λ n. element_is_some x p.1 (sym p.0 ∙ n), λ h. p.0 ∙ sym (some_same (ap (λ y. y.1.0) i))),
      )

  unknown_settled : (o : List ℕ) (p : Option (List ℕ)) → null_written.written (algorithm_identifier.format.normal (null_written.written (o, (p, tt)))) ≡ algorithm_identifier.format.normal (null_written.written (o, (p, tt)))
  unknown_settled o None = refl
  unknown_settled o (Some x) = refl

  settled : (v : A ⊎ algorithm_identifier.Value) → (alternative_written T).IsProper v → (alternative_written T).written ((alternative_written T).read (algorithm_identifier.format.normal ((alternative_written T).written v))) ≡ algorithm_identifier.format.normal ((alternative_written T).written v)
  settled (inl a) h = ap (λ r. (alternative_written T).written (alternative_read r (T.oid_of a, (Some null, tt)))) (t.there a)
  settled (inr v) h =
      ap (λ r. (alternative_written T).written (alternative_read r (algorithm_identifier.format.normal (null_written.written v)))) h ∙ unknown_settled v.0 v.1.0

  -- what is written of a known algorithm is read as that algorithm, and so is any other, with its parameters
  reread_at : (v : A ⊎ algorithm_identifier.Value) → (alternative_written T).IsProper v → (alternative_written T).read (algorithm_identifier.format.normal ((alternative_written T).written v)) ≡ (alternative_written T).normal v
  reread_at (inl a) h = ap (λ r. alternative_read r (T.oid_of a, (Some null, tt))) (t.there a)
  reread_at (inr v) h =
      ap (λ r. alternative_read r (algorithm_identifier.format.normal (null_written.written v))) h ∙ ap (alternative_read None) (null_reread v.0 v.1.0)

  pub alternative_loosening : IsLoosening algorithm_identifier.format (alternative_written T)
  alternative_loosening = record {
    proper = λ v. proper_at (T.alternative_of v.0) v refl;
    preserved = λ k v h. preserved_at k (T.alternative_of v.0) v refl h;
    chosen = λ k b v s. chosen_at k b (T.alternative_of v.0) v refl s;
    settled = λ k v h i. settled v i;
    reread = λ k v h i. reread_at v i;
    fewer = λ v. fewer_at (T.alternative_of v.0) v;
    reached = reached_at;
  }

  pub lawful_algorithm_choice : IsLawfulComponents (algorithm_choice T)
  lawful_algorithm_choice = lawful_loosened_components algorithm_identifier.format algorithm_identifier.law (alternative_written T) alternative_loosening
