-- Why values aren't encoded.
use Rattle.std.specs.Prelude.{◌≡◌, ◌<◌, ◌++◌, ℕ, List, [], ◌∷◌, length, map, slice_index_or}
use Rattle.std.specs.List.{AllByRecursion, Contains}
use Rattle.std.proofs.Common.{ap, arith, inl, inr, refl, subst, sym, ◌∙◌}
use Rattle.std.proofs.lemmas.List.{get_or-map, length-map}
use Rattle.std.proofs.lemmas.List.Elements.{All-contains, All-from_recursion, Contains-append_left, Contains-append_right}
use Rattle.asn1_core.specs.Der.{Format}
use Rattle.asn1_core_element.specs.declared.error.Error.{Error}
use Rattle.asn1_core_element.specs.declared.error.Error.TheVariants.{Invalid, TooLong, Memory}
use Rattle.asn1_core_writers.specs.Texts.{IsWriteError}
use Rattle.asn1_borrowed.specs.Written.{IsNotWritten}
use Rattle.asn1_sets.proofs.FoundOnce.{the_one}
use Rattle.asn1_sets.specs.Encodings.{HasNoTexts}

pub no_memory : (e : Error) → e ≡ Memory → e ≡ TooLong → ⊥
no_memory e m l = (let x : Memory ≡ TooLong = sym m ∙ l in cc)

pub not_invalid : (e : Error) → e ≡ Invalid → e ≡ TooLong → ⊥
not_invalid e i l = (let x : Invalid ≡ TooLong = sym i ∙ l in cc)

pub no_memory_invalid : (e : Error) → e ≡ Memory → e ≡ Invalid → ⊥
no_memory_invalid e m i = (let x : Memory ≡ Invalid = sym m ∙ i in cc)

-- an item of a list, by its index, under a function
pub contains_item : {X Y : Type 0} (f : X → Y) (xs : List X) (i : ℕ) (x : X) → i < length xs → x ≡ slice_index_or xs i x → Contains (map f xs) (f x)
contains_item f xs i x l e = (i, (omega (arith, l, length-map xs f)), get_or-map f xs i x (f x) l ∙ ap f (sym e))

module _ {V : Type 0} (F : Format V) where
  pub unwritten : (P : Type 0) (v : V) (e : Error) → IsWriteError (F.text v) e → HasNoTexts F P (v ∷ []) e
  unwritten P v e (inl m) = record { kind = inr (inr m); long = λ l. absurd (no_memory e m l); none = λ i. absurd (no_memory_invalid e m i) }
  unwritten P v e (inr m) = record { kind = inr (inl m.0); long = λ _. (v, (0, (omega arith), refl), m.1); none = λ i. absurd (not_invalid e i m.0) }

  pub not_written : (v : V) (e : Error) → IsNotWritten F v e → HasNoTexts F (F.IsWellFormed 64 v) (v ∷ []) e
  not_written v e (inl n) = record { kind = inl n.0; long = λ l. absurd (not_invalid e n.0 l); none = λ i f. n.1 f }
  not_written v e (inr (inl n)) = record { kind = inr (inl n.1); long = λ _. (v, (0, (omega arith), refl), n.2); none = λ i. absurd (not_invalid e i n.1) }
  not_written v e (inr (inr m)) = record { kind = inr (inr m); long = λ l. absurd (no_memory e m l); none = λ i. absurd (no_memory_invalid e m i) }

  -- where one of several isn't encoded, these aren't
  pub not_all : (all : List V) (v : V) (e : Error) → Contains all v → HasNoTexts F (F.IsWellFormed 64 v) (v ∷ []) e → HasNoTexts F (AllByRecursion (F.IsWellFormed 64) all) all e
  not_all all v e c h = record {
    kind = h.kind;
    long = λ l.
        let w = h.long l in
        let same : v ≡ w.0 = the_one v w.0 w.1 in
        (w.0, subst (Contains all) same c, w.2);
    none = λ i f. h.none i (All-contains (F.IsWellFormed 64) all v (All-from_recursion (F.IsWellFormed 64) all f) c);
  }

  -- of two lists in a row, one isn't encoded
  pub not_first : (P Q : Type 0) (xs ys : List V) (e : Error) → HasNoTexts F P xs e → HasNoTexts F (P × Q) (xs ++ ys) e
  not_first P Q xs ys e h = record {
    kind = h.kind;
    long = λ l. (let w = h.long l in (w.0, Contains-append_left xs ys w.0 w.1, w.2));
    none = λ i p. h.none i p.0;
  }

  pub not_second : (P Q : Type 0) (xs ys : List V) (e : Error) → HasNoTexts F Q ys e → HasNoTexts F (P × Q) (xs ++ ys) e
  not_second P Q xs ys e h = record {
    kind = h.kind;
    long = λ l. (let w = h.long l in (w.0, Contains-append_right xs ys w.0 w.1, w.2));
    none = λ i p. h.none i p.1;
  }

  pub by_right : (P Q : Type 0) (xs : List V) (e : Error) → (Q → P) → HasNoTexts F P xs e → HasNoTexts F Q xs e
  by_right P Q xs e f h = record { kind = h.kind; long = h.long; none = λ i q. h.none i (f q) }
