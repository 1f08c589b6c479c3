-- A text of arcs, cut at its dots.
use Rattle.std.proofs.Common.{◌≡◌, ℕ, ◌+◌, ◌-◌, ◌*◌, ◌^◌, ◌<◌, ◌≤◌, eqb, List, [], ◌∷◌, ◌++◌, map, length, get_or, take, drop, All, inl, inr, refl, sym, ap, ◌∙◌, arith, subst}
use Rattle.std.specs.List.{join_with_byte, flat_map}
use Rattle.std.specs.Fmt.{decimal}
use Rattle.std.proofs.lemmas.List.{map_push, take_more, take_all, take_rest, append-nil, append_assoc, get_or-map, length-map}
use Rattle.std.proofs.lemmas.List.Elements.{All-same, All-push, All-cons, All-head, All-tail}
use Rattle.std.proofs.lemmas.List.Splits.{length-slice_split, join_with_byte-slice_split}
use Rattle.asn1_core_element.specs.declared.error.Error.{Error}
use Rattle.asn1_core_oid.specs.Refusal.{IsRefusal}
use Rattle.asn1_core_oid.specs.Oid.{base128, IsOid}
use Rattle.asn1_core_oid.specs.OidText.{arcs_text, IsArcs, groups_of_arcs, SpellsArcs, SpellsGroups, IsTextOf}
use Rattle.asn1_core_oid.specs.laws.OidTextLaws.{pieces, pieces-arcs_text, arcs_fit, some_arcs, same_arcs}

pub piece_more : (ps : List (List ℕ)) (old new : List ℕ) (piece : List ℕ) (k n : ℕ) → (k < length ps) × (piece ≡ get_or ps k piece) → map decimal old ≡ take k ps → piece ≡ decimal n → new ≡ old ++ n ∷ [] → map decimal new ≡ take (k + 1) ps
piece_more ps old new piece k n t e d f =
    ap (map decimal) f ∙ map_push decimal old n ∙ ap (λ x. map decimal old ++ x ∷ []) (sym d ∙ t.1) ∙ ap (λ x. x ++ get_or ps k piece ∷ []) e ∙ sym (take_more ps k piece t.0)

pub fit_more : (old new : List ℕ) (n : ℕ) → All (λ n. n < 2 ^ 64) old → n < 2 ^ 64 → new ≡ old ++ n ∷ [] → All (λ n. n < 2 ^ 64) new
fit_more old new n h k e = All-same (λ n. n < 2 ^ 64) new (old ++ n ∷ []) e (All-push (λ n. n < 2 ^ 64) old n h k)

pub arcs_all : (text arcs : List ℕ) (k : ℕ) → map decimal arcs ≡ take k (pieces text) → k ≡ length (pieces text) → All (λ n. n < 2 ^ 64) arcs → SpellsArcs text arcs
arcs_all text arcs k e l h =
    let all : map decimal arcs ≡ pieces text = e ∙ take_all k (pieces text) (omega (arith, l)) in
    record {
      some = λ n. omega (arith, length-slice_split (λ b. eqb b 46) text, ap length all, length-map arcs decimal, ap length n);
      fit = h;
      spelled = sym (join_with_byte-slice_split 46 text) ∙ ap (join_with_byte 46) (sym all);
    }

pub not_spelled : (text piece : List ℕ) (k : ℕ) → (k < length (pieces text)) × (piece ≡ get_or (pieces text) k piece) → ((n : ℕ) → n < 2 ^ 64 → piece ≡ decimal n → ⊥) → (arcs : List ℕ) → SpellsArcs text arcs → ⊥
not_spelled text piece k t none arcs s =
    let all : pieces text ≡ map decimal arcs = ap pieces s.spelled ∙ pieces-arcs_text arcs s.some s.fit in
    let l : k < length arcs = omega (arith, t.0, ap length all, length-map arcs decimal) in
    none (get_or arcs k 0) (s.fit k 0 l) (t.1 ∙ ap (λ ps. get_or ps k piece) all ∙ get_or-map decimal arcs k 0 piece l)

-- there are two arcs or more
two_arcs : (arcs : List ℕ) → IsArcs arcs → 2 ≤ length arcs
two_arcs [] h = absurd h
two_arcs (first ∷ []) h = absurd h
two_arcs (first ∷ second ∷ further) h = omega arith

module _ {text : List ℕ} where
  same_spelled : {octets : List ℕ} (arcs : List ℕ) → SpellsArcs text arcs → (h : IsTextOf text octets) → arcs ≡ h.arcs
  same_spelled arcs s h = same_arcs arcs h.arcs s.some (some_arcs h.arcs h.allowed) s.fit (arcs_fit h.arcs h.fits) (sym s.spelled ∙ h.spelled)

  pub refused_text : ((arcs : List ℕ) → SpellsArcs text arcs → ⊥) → (octets : List ℕ) → IsTextOf text octets → ⊥
  refused_text f octets h = f h.arcs (record { some = some_arcs h.arcs h.allowed; fit = arcs_fit h.arcs h.fits; spelled = h.spelled })

  pub few_arcs : (arcs : List ℕ) → SpellsArcs text arcs → length arcs < 2 → (octets : List ℕ) → IsTextOf text octets → ⊥
  few_arcs arcs s l octets h = omega (arith, l, ap length (same_spelled arcs s h), two_arcs h.arcs h.allowed)

-- what the first two arcs must be
abbrev pub IsPair : ℕ → ℕ → Type 0
IsPair first second = (first ≤ 2) × (first < 2 → second < 40) × (40 * first + second < 2 ^ 64)

pair_of : (arcs : List ℕ) → IsArcs arcs → All (λ n. n < 2 ^ 64) (groups_of_arcs arcs) → IsPair (get_or arcs 0 0) (get_or arcs 1 0)
pair_of [] h k = absurd h
pair_of (first ∷ []) h k = absurd h
pair_of (first ∷ second ∷ further) h k = (h.0, h.1, All-head (λ n. n < 2 ^ 64) (40 * first + second) further k)

pub refused_pair : {text : List ℕ} (arcs : List ℕ) → SpellsArcs text arcs → ¬ (IsPair (get_or arcs 0 0) (get_or arcs 1 0)) → (octets : List ℕ) → IsTextOf text octets → ⊥
refused_pair arcs s n octets h =
    let P : List ℕ → Type 0 = λ l. IsPair (get_or l 0 0) (get_or l 1 0) in
    n (subst P (sym (same_spelled arcs s h)) (pair_of h.arcs h.allowed h.fits))

pub spelled_text : {text octets : List ℕ} (arcs : List ℕ) (group : ℕ) → SpellsArcs text arcs → 2 ≤ length arcs → IsPair (get_or arcs 0 0) (get_or arcs 1 0) → group ≡ 40 * get_or arcs 0 0 + get_or arcs 1 0 → octets ≡ base128 group ++ flat_map base128 (drop 2 arcs) → IsTextOf text octets
spelled_text [] group s l p e o = absurd (omega (arith, l))
spelled_text (first ∷ []) group s l p e o = absurd (omega (arith, l))
spelled_text (first ∷ second ∷ further) group s l p e o = record {
  arcs = first ∷ second ∷ further;
  allowed = (p.0, p.1);
  fits = All-cons (λ n. n < 2 ^ 64) (40 * first + second) further p.2 (All-tail (λ n. n < 2 ^ 64) second further (All-tail (λ n. n < 2 ^ 64) first (second ∷ further) s.fit));
  spelled = s.spelled;
  octets_are = o ∙ ap (λ g. base128 g ++ flat_map base128 further) e;
}

groups_some : (arcs : List ℕ) → IsArcs arcs → groups_of_arcs arcs ≡ [] → ⊥
groups_some [] h e = absurd h
groups_some (first ∷ []) h e = absurd h
groups_some (first ∷ second ∷ further) h e = omega (arith, ap length e)

pub oid_from_text : {text octets : List ℕ} → IsTextOf text octets → IsOid octets
oid_from_text h = record { groups = groups_of_arcs h.arcs; some = groups_some h.arcs h.allowed; spelled = h.octets_are }

pub written_text : {text : List ℕ} (arcs empty first octets : List ℕ) (group : ℕ) → SpellsArcs text arcs → 2 ≤ length arcs → IsPair (get_or arcs 0 0) (get_or arcs 1 0) → group ≡ 40 * get_or arcs 0 0 + get_or arcs 1 0 → empty ≡ [] → first ≡ empty ++ base128 group → octets ≡ first ++ flat_map base128 (take (length arcs - 2) (drop 2 arcs)) → IsTextOf text octets
written_text arcs empty first octets group s l p e n f o =
    spelled_text arcs group s l p e (o ∙ ap (λ x. x ++ flat_map base128 (take (length arcs - 2) (drop 2 arcs))) (f ∙ ap (λ x. x ++ base128 group) n) ∙ ap (λ x. base128 group ++ flat_map base128 x) (take_rest arcs 2))

pub refusal_weaker : {P Q : Type 0} {e : Error} → (P → Q) → IsRefusal P e → IsRefusal Q e
refusal_weaker f (inl m) = inl m
refusal_weaker f (inr r) = inr (r.0, f r.1)

arcs_text_from : (first : ℕ) (arcs : List ℕ) → arcs_text (first ∷ arcs) ≡ decimal first ++ flat_map (λ n. 46 ∷ decimal n) arcs
arcs_text_from first [] = sym (append-nil (decimal first))
arcs_text_from first (n ∷ arcs) = ap (λ x. decimal first ++ (46 ∷ x)) (arcs_text_from n arcs)

-- the text of groups
pub text_written : {octets text begun : List ℕ} (groups : List ℕ) (first second : ℕ) → SpellsGroups octets groups → IsArcs (first ∷ second ∷ []) × (get_or groups 0 0 ≡ 40 * first + second) → begun ≡ decimal first ++ (46 ∷ decimal second) → text ≡ begun ++ flat_map (λ n. 46 ∷ decimal n) (take (length groups - 1) (drop 1 groups)) → IsTextOf text octets
text_written [] first second s a b t = absurd (s.some refl)
text_written (group ∷ further) first second s a b t =
    let rest : List ℕ → List ℕ = flat_map (λ n. 46 ∷ decimal n) in
    record {
      arcs = first ∷ second ∷ further;
      allowed = (a.0.0, a.0.1);
      fits = All-cons (λ n. n < 2 ^ 64) (40 * first + second) further (omega (arith, a.1, All-head (λ n. n < 2 ^ 64) group further s.fit)) (All-tail (λ n. n < 2 ^ 64) group further s.fit);
      spelled = t ∙ ap (λ x. x ++ rest (take (length (group ∷ further) - 1) further)) b ∙ ap (λ x. (decimal first ++ (46 ∷ decimal second)) ++ rest x) (take_rest (group ∷ further) 1)
          ∙ append_assoc (decimal first) (46 ∷ decimal second) (rest further) ∙ sym (arcs_text_from first (second ∷ further));
      octets_are = s.spelled ∙ ap (λ g. base128 g ++ flat_map base128 further) a.1;
    }
