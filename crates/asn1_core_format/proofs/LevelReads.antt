-- Reading types that hold themselves.
use Rattle.std.proofs.Common.{◌≡◌, ℕ, zero, [], ◌++◌, length, Result, Err, sym, ap, ◌∙◌, subst, arith, append-nil}
use Rattle.std.proofs.lemmas.List.{nil_from_length}
use Rattle.asn1_core_element.specs.Position.{Position}
use Rattle.asn1_core_element.specs.Reading.{RefusedElement}
use Rattle.asn1_core_element.specs.declared.error.Error.{Error}
use Rattle.asn1_core_element.specs.declared.error.Error.TheVariants.{TooDeep}
use Rattle.asn1_core_format.specs.Format.{Format, HasRead, HasRefused, Gives}
use Rattle.asn1_core_format.specs.Components.{within, HasReadComponents, HasRefusedComponents, GivesComponents}
use Rattle.asn1_core_format.specs.Levels.{less, LevelInvariant, levels}
use Rattle.asn1_core_format.specs.LevelLaws.{IsStep}
use Rattle.asn1_core_format.specs.laws.LevelLaws.{unroll, unroll_least}
use Rattle.asn1_core_format.specs.Mapped.{mapped}

-- no level is left
pub none_left : {V : Type 0} (F : Format V) {k : ℕ} → k ≡ zero → (p : Position) → HasRefused (less F) k p p TooDeep
none_left F e p = record {
  kind = λ q. cc;
  none = λ m taken rest v s r. subst (λ i. (less F).Reads i taken v) e r;
  counts = omega arith;
  at_most = omega arith;
}

module _ {I : Type 0} {V : I → Type 0} (s : (i : I) → LevelInvariant (V i)) (step : ((i : I) → Format (V i)) → (i : I) → Format (V i)) (p : IsStep s step) (i : I) (k : ℕ) where
  pub has_read_level : {old new : Position} {v : V i} → HasRead (step (λ j. less (levels s step j)) i) k old new v → HasRead (levels s step i) k old new v
  has_read_level {old} {new} {v} t = record {
    taken = t.taken;
    split = t.split;
    reads = (unroll s step p k i t.taken v).1 t.reads;
    beyond = t.beyond;
    end = t.end;
    refused = t.refused;
    at_least = omega (arith, t.at_least, unroll_least s step p i v);
    at_most = t.at_most;
  }

  pub refused_level : {old new : Position} {e : Error} → HasRefused (step (λ j. less (levels s step j)) i) k old new e → HasRefused (levels s step i) k old new e
  refused_level g = record {
    kind = g.kind;
    none = λ m taken rest v q r. g.none m taken rest v q ((unroll s step p k i taken v).0 r);
    counts = g.counts;
    at_most = g.at_most;
  }

module _ {V W : Type 0} (out : V → W) (into : W → V) (F : Format W) (k : ℕ) where
  pub has_read_mapped : {old new : Position} (v : V) → HasRead F k old new (out v) → HasRead (mapped out into F) k old new v
  has_read_mapped v t = record { taken = t.taken; split = t.split; reads = t.reads; beyond = t.beyond; end = t.end; refused = t.refused; at_least = t.at_least; at_most = t.at_most }

  pub refused_mapped : {old new : Position} {e : Error} → HasRefused F k old new e → HasRefused (mapped out into F) k old new e
  refused_mapped g = record { kind = g.kind; none = λ m taken rest v q r. g.none m taken rest (out v) q r; counts = g.counts; at_most = g.at_most }

-- no element with the tag begins what is left
pub unopened : {V : Type 0} (R : Format V) (k tag : ℕ) {old new : Position} {e : Error} → RefusedElement tag old new e → HasRefused (within tag R) k old new e
unopened R k tag g = record {
  kind = g.long;
  none = λ m taken rest v s r. g.none r.0 rest (s ∙ ap (λ t. t ++ rest) r.1);
  counts = omega (arith, g.headers);
  at_most = omega (arith, g.headers);
}

pub alone_has_read : {V : Type 0} (F : Format V) (k : ℕ) {old new : Position} {v : V} → HasRead F k old new v → length new.left ≡ 0 → HasReadComponents F k old new v
alone_has_read F k {old} {new} {v} t none =
    let d : new.left ≡ [] = nil_from_length new.left none in
    let e : old.left ≡ t.taken = t.split ∙ ap (λ x. t.taken ++ x) d ∙ append-nil t.taken in
    record {
      reads = subst (λ b. F.Reads k b v) (sym e) t.reads;
      done = d;
      beyond = t.beyond;
      end = t.end;
      refused = t.refused;
      at_least = t.at_least;
      at_most = omega (arith, t.at_most, ap length e);
    }

-- an error that `?` hands on
pub has_refused : {T V : Type 0} (value : T → V) (F : Format V) (k : ℕ) {old new : Position} {r : Result T Error} {e : Error} → ((x : Error) × (r ≡ Err x) × (x ≡ e)) → HasRefused F k old new e → Gives value F k old new r
has_refused value F k {old} {new} p g = subst (Gives value F k old new) (sym p.1) (subst (HasRefused F k old new) (sym p.2) g)

pub has_refused_components : {T V : Type 0} (value : T → V) (F : Format V) (k : ℕ) {old new : Position} {r : Result T Error} {e : Error} → ((x : Error) × (r ≡ Err x) × (x ≡ e)) → HasRefusedComponents F k old new e → GivesComponents value F k old new r
has_refused_components value F k {old} {new} p g = subst (GivesComponents value F k old new) (sym p.1) (subst (HasRefusedComponents F k old new) (sym p.2) g)
