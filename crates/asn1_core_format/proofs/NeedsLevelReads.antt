-- Reading a type that needs a nesting level to be left.
use Rattle.std.proofs.Common.{◌≡◌, ℕ, suc, sym, subst}
use Rattle.asn1_core_element.specs.Position.{Position}
use Rattle.asn1_core_element.specs.declared.error.Error.{Error}
use Rattle.asn1_core_format.specs.Format.{Format, HasRead, HasRefused}
use Rattle.asn1_core_format.specs.NeedsLevel.{needs_level}

-- a level is left
module _ {V : Type 0} (F : Format V) {k j : ℕ} (some : suc j ≡ k) {old new : Position} where
  pub has_read_needs_level : {v : V} → HasRead F k old new v → HasRead (needs_level F) k old new v
  has_read_needs_level {v} t = record {
    taken = t.taken;
    split = t.split;
    reads = subst (λ i. (needs_level F).Reads i t.taken v) some (subst (λ i. F.Reads i t.taken v) (sym some) t.reads);
    beyond = t.beyond;
    end = t.end;
    refused = t.refused;
    at_least = t.at_least;
    at_most = t.at_most;
  }

  pub refused_needs_level : {e : Error} → HasRefused F k old new e → HasRefused (needs_level F) k old new e
  refused_needs_level g = record {
    kind = g.kind;
    none = λ m taken rest v s r. g.none m taken rest v s (subst (λ i. F.Reads i taken v) some (subst (λ i. (needs_level F).Reads i taken v) (sym some) r));
    counts = g.counts;
    at_most = g.at_most;
  }
