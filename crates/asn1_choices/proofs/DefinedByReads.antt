-- Reading an object identifier and what it picks, and reading an alternative.
use Rattle.std.proofs.Common.{◌≡◌, ℕ, List, ◌++◌, length, refl, sym, ap, ◌∙◌, subst, arith, length-append}
use Rattle.asn1_core.specs.Der.{object_identifier, element, element_cut, Position, Format, HasRead, HasRefused, HasReadComponents, HasRefusedComponents}
use Rattle.asn1_core_element.specs.declared.error.Error.{Error}
use Rattle.asn1_choices.specs.DefinedBy.{DefinedBy, any_defined_by, Alternative, alternative}
use Rattle.asn1_choices.specs.DefinedByLaws.{IsAlternative}

module _ {V : Type 0} (P : DefinedBy V) where
  -- what was left began with the object identifier
  left_is : {k : ℕ} {old mid : Position} {o : List ℕ} → HasRead object_identifier k old mid o → old.left ≡ element 0x06 o ++ mid.left
  left_is {k} {old} {mid} t = t.split ∙ ap (λ a. a ++ mid.left) t.reads.0

  pub defined_has_read : {k : ℕ} {old mid new : Position} {o : List ℕ} {v : V} → HasRead object_identifier k old mid o → HasReadComponents (P.components o) k mid new v → HasReadComponents (any_defined_by P) k old new (o, v)
  defined_has_read {k} {old} {mid} t g = record {
    reads = (mid.left, left_is t, t.reads.1, g.reads);
    done = g.done;
    beyond = g.beyond ∙ t.beyond;
    end = g.end ∙ t.end;
    refused = g.refused;
    at_least = omega (arith, g.at_least, t.at_least);
    at_most = omega (arith, g.at_most, t.at_most, ap length t.split, length-append t.taken mid.left);
  }

  pub oid_refused : {k : ℕ} {old new : Position} {e : Error} → HasRefused object_identifier k old new e → HasRefusedComponents (any_defined_by P) k old new e
  oid_refused g = record {
    kind = g.kind;
    none = λ m x s. g.none m (element 0x06 x.0) s.0 x.0 s.1 (refl, s.2);
    counts = g.counts;
    at_most = g.at_most;
  }

  pub components_refused : {k : ℕ} {old mid new : Position} {o : List ℕ} {e : Error} → HasRead object_identifier k old mid o → HasRefusedComponents (P.components o) k mid new e → HasRefusedComponents (any_defined_by P) k old new e
  components_refused {k} {old} {mid} {new} {o} t g = record {
    kind = g.kind;
    none = λ m x s.
        let c = element_cut 0x06 0x06 x.0 o s.0 mid.left (sym s.1 ∙ left_is t) in
        g.none m x.1 (subst (λ b. (P.components o).Reads k b x.1) c.2 (subst (λ a. (P.components a).Reads k s.0 x.1) c.1 s.3));
    counts = omega (arith, g.counts, t.at_least);
    at_most = omega (arith, g.at_most, t.at_most, ap length t.split, length-append t.taken mid.left);
  }

module _ {A V : Type 0} (W : Format V) (m : Alternative A V) (F : Format A) where
  pub alternative_has_read : IsAlternative W m F → {k : ℕ} {old new : Position} {a : A} → HasReadComponents F k old new a → HasReadComponents (alternative W m F) k old new (m.put a)
  alternative_has_read l {k} {old} {new} {a} t = record {
    reads = (a, refl, t.reads);
    done = t.done;
    beyond = t.beyond;
    end = t.end;
    refused = t.refused;
    at_least = omega (arith, t.at_least, l.least a);
    at_most = t.at_most;
  }

  pub alternative_refused : {k : ℕ} {old new : Position} {e : Error} → HasRefusedComponents F k old new e → HasRefusedComponents (alternative W m F) k old new e
  alternative_refused g = record { kind = g.kind; none = λ n v s. g.none n s.0 s.2; counts = g.counts; at_most = g.at_most }

-- equal values pick the same body
module _ {T V : Type 0} (components : T → Format V) {s t : T} (same : s ≡ t) where
  pub has_read_at : {k : ℕ} {old new : Position} {v : V} → HasReadComponents (components s) k old new v → HasReadComponents (components t) k old new v
  has_read_at {k} {old} {new} {v} g = subst (λ u. HasReadComponents (components u) k old new v) same g

  pub refused_at : {k : ℕ} {old new : Position} {e : Error} → HasRefusedComponents (components s) k old new e → HasRefusedComponents (components t) k old new e
  refused_at {k} {old} {new} {e} g = subst (λ u. HasRefusedComponents (components u) k old new e) same g
