-- Why signed data isn't written.
use Rattle.std.specs.Prelude.{◌≡◌, ◌≤◌, ◌^◌, List, [], ◌∷◌, length, map}
use Rattle.std.specs.List.{AllByRecursion, Contains}
use Rattle.std.proofs.Common.{arith, inl, inr, refl, subst, sym, ⊎_elim}
use Rattle.std.proofs.lemmas.List.Elements.{Contains-append_cases, Contains-append_left, Contains-append_right}
use Rattle.asn1_core.specs.Der.{OidOctets}
use Rattle.asn1_core_element.specs.declared.error.Error.{Error}
use Rattle.asn1_sets.proofs.FoundOnce.{the_one}
use Rattle.asn1_sets.specs.Encodings.{HasNoTexts}
use Rattle.signed_writers.specs.Parts.{AreFormed}
use Rattle.signed_writers.specs.Signed.{GivenParts, IsConsistent, IsUnwritten, type_of}
use Rattle.signer_ranges.specs.SignerRoutes.{ALGORITHM, SIGNER, SignerValue}
use Rattle.signer_ranges.specs.Signers.{digest_algorithm_of}

-- an item under a function
module _ {X Y : Type 0} (f : X → Y) where
  pub under : (xs : List X) (y : Y) → Contains (map f xs) y → (x : X) × Contains xs x × (f x ≡ y)
  under [] y c = absurd (omega (arith, c.1))
  under (x ∷ xs) y c =
      ⊎_elim
      (λ here. (x, Contains-append_left (x ∷ []) xs x (0, (omega arith), refl), the_one (f x) y here))
      (λ later. (let r = under xs y later in (r.0, Contains-append_right (x ∷ []) xs r.0 r.1, r.2)))
      (Contains-append_cases (f x ∷ []) (map f xs) y c)

signers_algorithms : (type : OidOctets) (all : List SignerValue) → AllByRecursion (IsConsistent type) all → AreFormed (map digest_algorithm_of all)
signers_algorithms type [] h = tt
signers_algorithms type (s ∷ all) h = (h.0.formed.1.1.0, signers_algorithms type all h.1)

pub without_algorithms : (given : GivenParts) (e : Error) → HasNoTexts ALGORITHM.format (AreFormed (map digest_algorithm_of given.signers)) (map digest_algorithm_of given.signers) e → IsUnwritten given e
without_algorithms given e h = record {
  kind = h.kind;
  long = λ l.
      let w = h.long l in
      let r = under digest_algorithm_of given.signers w.0 w.1 in
      inl (r.0, r.1, inr (subst (λ a. 2 ^ 64 ≤ length (ALGORITHM.format.text a)) (sym r.2) w.2));
  none = λ i can. h.none i (signers_algorithms (type_of given) given.signers can.signers);
}

signers_formed : (type : OidOctets) (all : List SignerValue) → AllByRecursion (IsConsistent type) all → AllByRecursion (SIGNER.format.IsWellFormed 64) all
signers_formed type [] h = tt
signers_formed type (s ∷ all) h = (h.0.formed, signers_formed type all h.1)

pub without_signers : (given : GivenParts) (e : Error) → HasNoTexts SIGNER.format (AllByRecursion (SIGNER.format.IsWellFormed 64) given.signers) given.signers e → IsUnwritten given e
without_signers given e h = record {
  kind = h.kind;
  long = λ l. (let w = h.long l in inl (w.0, w.1, inl w.2));
  none = λ i can. h.none i (signers_formed (type_of given) given.signers can.signers);
}
