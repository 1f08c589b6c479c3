-- Reading a choice by object identifier: the object identifier, and then the alternative that it picks. An answer names
-- it from the first of the chain on: `there` for each one that is passed, and `here`, or `other` at the chain's end.
use Rattle.std.proofs.Common.{◌≡◌, ◌≢◌, ◌⊎◌, ℕ, ◌+◌, ◌*◌, ◌≤◌, List, ◌++◌, length, refl, sym, ap, ◌∙◌, subst, inl, inr, arith, length-append}
use Rattle.asn1_core_element.specs.Element.{element}
use Rattle.asn1_core_element.specs.laws.ElementLaws.{element_cut}
use Rattle.asn1_core_element.specs.Position.{Position}
use Rattle.asn1_core_element.specs.declared.error.Error.{Error}
use Rattle.asn1_core_element.specs.declared.error.Error.TheVariants.{TooLong, Memory}
use Rattle.asn1_core_format.specs.Format.{Format, HasRead, HasRefused}
use Rattle.asn1_core_format.specs.Leaf.{leaf, verbatim}
use Rattle.asn1_core_format.specs.Components.{HasReadComponents, HasRefusedComponents}
use Rattle.asn1_core_format.specs.Choices.{Choice, otherwise, known, IsLawfulChoice}
use Rattle.asn1_core_format.specs.laws.Choices.{same_head}

-- all that was left was read as a value under the object identifier `key`
pub record HasReadAlternative {V : Type 0} (C : Choice V) (k : ℕ) (key : List ℕ) (old new : Position) (v : V) : Type 0 where
  pub components : HasReadComponents C.components k old new v
  pub oid : C.oid_of v ≡ key

-- reading gave up, since memory was refused or since what was left is no encoding under the object identifier `key`
pub record HasRefusedAlternative {V : Type 0} (C : Choice V) (k : ℕ) (key : List ℕ) (old new : Position) (e : Error) : Type 0 where
  pub kind : e ≢ TooLong
  pub none : e ≢ Memory → (v : V) → C.components.Reads k old.left v → C.oid_of v ≡ key → ⊥
  pub counts : old.headers ≤ new.headers
  pub at_most : 2 * new.headers ≤ 2 * old.headers + length old.left + 2

module _ (IsOid : List ℕ → Type 0) where
  -- what was left began with the object identifier
  key_left : {k : ℕ} {old mid : Position} {key : List ℕ} → HasRead (leaf 0x06 (verbatim IsOid)) k old mid key → old.left ≡ element 0x06 key ++ mid.left
  key_left {k} {old} {mid} t = t.split ∙ ap (λ a. a ++ mid.left) t.reads.0

  after : {k : ℕ} {old mid : Position} {key : List ℕ} (o c : List ℕ) → HasRead (leaf 0x06 (verbatim IsOid)) k old mid key → old.left ≡ element 0x06 o ++ c → mid.left ≡ c
  after {k} {old} {mid} {key} o c t e = (element_cut 0x06 0x06 key o mid.left c (sym (key_left t) ∙ e)).2

  -- the alternative whose object identifier was read
  module _ {V W : Type 0} (o : List ℕ) (R : Format V) (C : Choice W) where
    pub here : {k : ℕ} {old mid new : Position} {key : List ℕ} {v : V} → HasRead (leaf 0x06 (verbatim IsOid)) k old mid key → key ≡ o → HasReadComponents R k mid new v → HasReadAlternative (known o R C) k key old new (inl v)
    here {k} {old} {mid} {new} {key} {v} t h g = record {
      components = record {
        reads = (mid.left, key_left t ∙ ap (λ a. element 0x06 a ++ mid.left) h, g.reads);
        done = g.done;
        beyond = g.beyond ∙ t.beyond;
        end = g.end ∙ t.end;
        refused = g.refused;
        at_least = omega (arith, g.at_least, t.at_least);
        at_most = omega (arith, g.at_most, t.at_most, ap length t.split, length-append t.taken mid.left);
      };
      oid = sym h;
    }

    none_here : {k : ℕ} {old mid : Position} {key : List ℕ} {e : Error} → HasRead (leaf 0x06 (verbatim IsOid)) k old mid key → key ≡ o → (e ≢ Memory → (v : V) → R.Reads k mid.left v → ⊥) → e ≢ Memory → (v : V ⊎ W) → (known o R C).components.Reads k old.left v → (known o R C).oid_of v ≡ key → ⊥
    none_here {k} t h g m (inl v) s i = g m v (subst (λ c. R.Reads k c v) (sym (after o s.0 t s.1)) s.2)
    none_here t h g m (inr w) s i = s.1 (i ∙ h)

    pub here_refused : {k : ℕ} {old mid new : Position} {key : List ℕ} {e : Error} → HasRead (leaf 0x06 (verbatim IsOid)) k old mid key → key ≡ o → HasRefusedComponents R k mid new e → HasRefusedAlternative (known o R C) k key old new e
    here_refused {k} {old} {mid} {new} {key} {e} t h g = record {
      kind = g.kind;
      none = none_here {e = e} t h g.none;
      counts = omega (arith, g.counts, t.at_least);
      at_most = omega (arith, g.at_most, t.at_most, ap length t.split, length-append t.taken mid.left);
    }

  -- any object identifier, at the chain's end
  module _ {V : Type 0} (R : Format V) where
    pub other : {k : ℕ} {old mid new : Position} {key : List ℕ} {v : V} → HasRead (leaf 0x06 (verbatim IsOid)) k old mid key → HasReadComponents R k mid new v → HasReadAlternative (otherwise IsOid R) k key old new (key, v)
    other {k} {old} {mid} {new} {key} {v} t g = record {
      components = record {
        reads = (t.taken, mid.left, t.split, t.reads, g.reads);
        done = g.done;
        beyond = g.beyond ∙ t.beyond;
        end = g.end ∙ t.end;
        refused = g.refused;
        at_least = omega (arith, g.at_least, t.at_least);
        at_most = omega (arith, g.at_most, t.at_most, ap length t.split, length-append t.taken mid.left);
      };
      oid = refl;
    }

    pub other_refused : {k : ℕ} {old mid new : Position} {key : List ℕ} {e : Error} → HasRead (leaf 0x06 (verbatim IsOid)) k old mid key → HasRefusedComponents R k mid new e → HasRefusedAlternative (otherwise IsOid R) k key old new e
    other_refused {k} {old} {mid} {new} {key} t g = record {
      kind = g.kind;
      none = λ m v s i. g.none m v.1 (subst (λ c. R.Reads k c v.1) (sym (after v.0 s.1 t (s.2 ∙ ap (λ a. a ++ s.1) s.3.0))) s.4);
      counts = omega (arith, g.counts, t.at_least);
      at_most = omega (arith, g.at_most, t.at_most, ap length t.split, length-append t.taken mid.left);
    }

-- an alternative that is passed, since its object identifier is another
module _ {V W : Type 0} (o : List ℕ) (R : Format V) (C : Choice W) where
  pub there : {k : ℕ} {old new : Position} {key : List ℕ} {w : W} → (key ≡ o → ⊥) → HasReadAlternative C k key old new w → HasReadAlternative (known o R C) k key old new (inr w)
  there n a = record {
    components = record {
      reads = (a.components.reads, λ e. n (sym a.oid ∙ e));
      done = a.components.done;
      beyond = a.components.beyond;
      end = a.components.end;
      refused = a.components.refused;
      at_least = a.components.at_least;
      at_most = a.components.at_most;
    };
    oid = a.oid;
  }

  none_there : {k : ℕ} {key : List ℕ} {e : Error} (left : List ℕ) → (key ≡ o → ⊥) → (e ≢ Memory → (w : W) → C.components.Reads k left w → C.oid_of w ≡ key → ⊥) → e ≢ Memory → (v : V ⊎ W) → (known o R C).components.Reads k left v → (known o R C).oid_of v ≡ key → ⊥
  none_there left n g m (inl v) s i = n (sym i)
  none_there left n g m (inr w) s i = g m w s.0 i

  pub there_refused : {k : ℕ} {old new : Position} {key : List ℕ} {e : Error} → (key ≡ o → ⊥) → HasRefusedAlternative C k key old new e → HasRefusedAlternative (known o R C) k key old new e
  there_refused {k} {old} {new} {key} {e} n g = record { kind = g.kind; none = none_there {e = e} old.left n g.none; counts = g.counts; at_most = g.at_most }

-- values are under object identifiers
pub record HasOids {V : Type 0} (IsOid : List ℕ → Type 0) (C : Choice V) : Type 0 where
  pub valid : (k : ℕ) (b : List ℕ) (v : V) → C.components.Reads k b v → IsOid (C.oid_of v)

-- the whole choice, of which no object identifier was read, or an alternative was refused
module _ {V : Type 0} (IsOid : List ℕ → Type 0) (C : Choice V) (c : IsLawfulChoice C) where
  pub oid_refused : {k : ℕ} {old new : Position} {e : Error} → HasOids IsOid C → HasRefused (leaf 0x06 (verbatim IsOid)) k old new e → HasRefusedComponents C.components k old new e
  oid_refused {k} {old} i g = record {
    kind = g.kind;
    none = λ m v s.
        let h = c.heads k old.left v s in
        g.none m (element 0x06 (C.oid_of v)) h.0 (C.oid_of v) h.1 (refl, i.valid k old.left v s);
    counts = g.counts;
    at_most = g.at_most;
  }

  pub alternative_refused : {k : ℕ} {old mid new : Position} {key : List ℕ} {e : Error} → HasRead (leaf 0x06 (verbatim IsOid)) k old mid key → HasRefusedAlternative C k key old new e → HasRefusedComponents C.components k old new e
  alternative_refused {k} {old} {mid} {new} {key} t g = record {
    kind = g.kind;
    none = λ m v s. g.none m v s (same_head (C.oid_of v) key old.left (c.heads k old.left v s) (mid.left, key_left IsOid t));
    counts = g.counts;
    at_most = g.at_most;
  }
