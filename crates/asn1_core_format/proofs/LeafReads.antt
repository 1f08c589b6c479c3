-- Reading leaves.
use Rattle.std.proofs.Common.{◌≡◌, ℕ, false, List, ◌++◌, length, take, drop, Result, Ok, Err, sym, ap, ◌∙◌, arith}
use Rattle.std.proofs.Math.Seq.{take-length, drop-length}
use Rattle.asn1_core_element.specs.Element.{element}
use Rattle.asn1_core_element.specs.laws.ElementLaws.{element_cut, element_long, element_same}
use Rattle.asn1_core_element.specs.Position.{Position}
use Rattle.asn1_core_element.specs.Reading.{HasReadElement, HasReadContents}
use Rattle.asn1_core_element.specs.declared.error.Error.{Error}
use Rattle.asn1_core_format.specs.Format.{Gives}
use Rattle.asn1_core_format.specs.Leaf.{Spelling, leaf, GivesSpelled}
use Rattle.asn1_core_format.specs.Components.{GivesComponents}
use Rattle.asn1_core_format.specs.Tagged.{inside}

module _ {T V : Type 0} (value : T → V) (S : Spelling V) (k tag : ℕ) {old new : Position} {c : List ℕ} (t : HasReadElement tag old new c) where
  pub leaf_given : (r : Result T Error) → GivesSpelled value S c r → Gives value (leaf tag S) k old new r
  leaf_given (Ok x) s = record {
    taken = element tag c;
    split = t.split;
    reads = (ap (element tag) s.is, s.valid);
    beyond = t.beyond;
    end = t.end;
    refused = t.refused;
    at_least = omega (arith, t.headers);
    at_most = omega (arith, t.headers, element_long tag c);
  }
  leaf_given (Err e) s = record {
    kind = s.kind;
    none = λ m taken rest v p r.
        let q = element_cut tag tag c (S.spell v) new.left rest (sym t.split ∙ p ∙ ap (λ x. x ++ rest) r.0) in
        s.none m v r.1 q.1;
    counts = omega (arith, t.headers);
    at_most = omega (arith, t.headers);
  }

module _ {T V : Type 0} (value : T → V) (S : Spelling V) (k tag : ℕ) {old new : Position} {n : ℕ} {c : List ℕ} (t : HasReadContents old new n c) (whole : n ≡ length old.left) where
  all : c ≡ old.left
  all = t.contents_are ∙ ap (λ i. take i old.left) whole ∙ take-length old.left

  pub leaf_contents_given : new.refused ≡ false → (r : Result T Error) → GivesSpelled value S c r → GivesComponents value (inside tag (leaf tag S)) k old new r
  leaf_contents_given g (Ok x) s = record {
    reads = (ap (element tag) (sym all ∙ s.is), s.valid);
    done = t.left ∙ ap (λ i. drop i old.left) whole ∙ drop-length old.left;
    beyond = t.beyond;
    end = t.end;
    refused = g;
    at_least = omega (arith, t.headers);
    at_most = omega (arith, t.headers);
  }
  leaf_contents_given g (Err e) s = record {
    kind = s.kind;
    none = λ m v r. s.none m v r.1 (all ∙ (element_same tag tag old.left (S.spell v) r.0).1);
    counts = omega (arith, t.headers);
    at_most = omega (arith, t.headers);
  }
