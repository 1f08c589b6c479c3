-- Laws of `TagNumbers.antt`.
use Rattle.std.specs.Prelude.{◌↔◌, ℕ, ◌<◌, ◌≤◌, ◌%◌, ◌&&◌, ltb, Bool, true, false, IsTrue}
use Rattle.std.proofs.Common.{arith, sym}
use Rattle.std.proofs.lemmas.Bool.{lt-ltb, le-ltb, true≢false}
use Rattle.asn1_core_element.specs.Element.{IsTagByte}
use Rattle.asn1_core_element.specs.Position.{Position}
use Rattle.asn1_core_element.specs.declared.error.Error.{Error}
use Rattle.asn1_core_element.specs.declared.error.Error.TheVariants.{Invalid}
use Rattle.asn1_core_format.specs.Format.{Format, IsLawful, HasRead, HasRefused}
use Rattle.asn1_core_format.specs.Components.{within}
use Rattle.asn1_core_format.specs.laws.ComponentLaws.{lawful_within}
use Rattle.asn1_core_format.specs.Tagged.{IsTagged, implicit, context_tag}
use Rattle.asn1_core_format.specs.laws.TaggedLaws.{lawful_implicit, implicit_tagged, context_tag_is, within_tagged}
use Rattle.asn1_core_format.specs.TagNumbers.{explicit_context, explicit_tag, implicit_context, numbered, only, only_if}

lawful_only : {V : Type 0} (b : Bool) (F : Format V) → IsLawful F → IsLawful (only b F)
lawful_only true F f = record { components = f.components; element = f.element }
lawful_only false F f = record {
  components = record {
    begins = λ k x v r. absurd r;
    one_value = λ k x v w r s. absurd r;
    text_reads = λ k v h. absurd h;
    text_normal = λ k v h. absurd h;
    normal_reads = λ k x m. absurd m;
    fixed = λ k x v r. absurd r;
    well_formed = λ k x v r. absurd r;
    deeper = λ k x v r. absurd r;
  };
  element = λ k x v r. absurd r;
}

pub lawful_numbered : {V : Type 0} (n : ℕ) (F : Format V) → IsLawful F → IsLawful (numbered n F)
lawful_numbered n F f = lawful_only (ltb n 31) F f

pub low : {P : Type 0} (n : ℕ) → n < 31 → P → only_if (ltb n 31) P
low n l p = rw (lt-ltb n 31 l) p

pub not_high : {P : Type 0} (b : Bool) → only_if b P → P
not_high true p = p
not_high false p = absurd p

pub high : (P : Type 0) (n : ℕ) → 31 ≤ n → only_if (ltb n 31) P → ⊥
high P n h p = rw (le-ltb n 31 h) at p

formed : {P : Type 0} (t b : Bool) → IsTrue b ↔ P → IsTrue (t && b) ↔ only_if t P
formed true b e = e
formed false b e = (λ h. absurd (true≢false (sym h)), λ h. absurd h)

pub numbered_tagged : {V : Type 0} (n tag : ℕ) (F : Format V) → IsTagged tag F → IsTagged tag (numbered n F)
numbered_tagged n tag F g = record { is_tag = g.is_tag; tags = g.tags; written = g.written }

-- what reading F answers, where the number is below 31
pub numbered_is_read : {V : Type 0} (n : ℕ) (F : Format V) {k : ℕ} {old new : Position} {v : V} → n < 31 → HasRead F k old new v → HasRead (numbered n F) k old new v
numbered_is_read n F l r = record {
  taken = r.taken;
  split = r.split;
  reads = low n l r.reads;
  beyond = r.beyond;
  end = r.end;
  refused = r.refused;
  at_least = r.at_least;
  at_most = r.at_most;
}

pub numbered_is_refused : {V : Type 0} (n : ℕ) (F : Format V) {k : ℕ} {old new : Position} {e : Error} → HasRefused F k old new e → HasRefused (numbered n F) k old new e
numbered_is_refused n F r = record {
  kind = r.kind;
  none = λ m taken rest v s p. r.none m taken rest v s (not_high (ltb n 31) p);
  counts = r.counts;
  at_most = r.at_most;
}

-- nothing is read where the number is greater
pub numbered_too_high : {V : Type 0} (n : ℕ) (F : Format V) {k : ℕ} {at : Position} → 31 ≤ n → HasRefused (numbered n F) k at at Invalid
numbered_too_high n F h = record {
  kind = λ e. cc;
  none = λ m taken rest v s p. high _ n h p;
  counts = omega arith;
  at_most = omega arith;
}

pub numbered_is_formed : {P : Type 0} (n : ℕ) (b : Bool) → IsTrue b ↔ P → IsTrue (ltb n 31 && b) ↔ only_if (ltb n 31) P
numbered_is_formed {P} n b e = formed (ltb n 31) b e

pub explicit_tag_is : (n : ℕ) → IsTagByte (explicit_tag n)
explicit_tag_is n = omega arith

pub lawful_explicit_context : {V : Type 0} (n : ℕ) {F : Format V} → IsLawful F → IsLawful (explicit_context n F)
lawful_explicit_context n {F} f = lawful_numbered n (within (explicit_tag n) F) (lawful_within F f.components (explicit_tag n) (explicit_tag_is n))

pub implicit_tag_is : (n inner : ℕ) → IsTagByte (context_tag (n % 31) inner)
implicit_tag_is n inner = context_tag_is (n % 31) inner (omega arith)

pub lawful_implicit_context : {V : Type 0} (n inner : ℕ) {F : Format V} → IsLawful F → IsTagged inner F → IsLawful (implicit_context n inner F)
lawful_implicit_context n inner {F} f g = lawful_numbered n (implicit (context_tag (n % 31) inner) inner F) (lawful_implicit (context_tag (n % 31) inner) inner F f g (implicit_tag_is n inner))

pub explicit_context_tagged : {V : Type 0} (n : ℕ) (F : Format V) → IsTagged (explicit_tag n) (explicit_context n F)
explicit_context_tagged n F = numbered_tagged n (explicit_tag n) (within (explicit_tag n) F) (within_tagged (explicit_tag n) (explicit_tag_is n) F)

pub implicit_context_tagged : {V : Type 0} (n inner : ℕ) (F : Format V) → IsTagged inner F → IsTagged (context_tag (n % 31) inner) (implicit_context n inner F)
implicit_context_tagged n inner F g = numbered_tagged n (context_tag (n % 31) inner) (implicit (context_tag (n % 31) inner) inner F) (implicit_tagged (context_tag (n % 31) inner) inner F g (implicit_tag_is n inner))
