-- Reading a choice by object identifier: the object identifier, and then the body of the alternative that it picks.
use Rattle.std.proofs.Common.{◌≡◌, ◌≢◌, ◌⊎◌, ℕ, List, ◌++◌, length, Some, None, refl, sym, ap, ◌∙◌, subst, inl, inr, arith, length-append}
use Rattle.asn1_core.specs.Der.{element, element_cut, element_long, Position, HasReadElement, RefusedElement, Choice, IsLawfulChoice, known, otherwise, same_head, Format, HasReadComponents, HasRefusedComponents, IsOid, IsRefusal}
use Rattle.asn1_core_element.specs.declared.error.Error.{Error}
use Rattle.asn1_core_element.specs.declared.error.Error.TheVariants.{Memory, Invalid}
use Rattle.asn1_core_element.specs.declared.error.Error.TheVariants.{TooLong}
use Rattle.asn1_choices.specs.Chosen.{after_oid}
use Rattle.asn1_choices.specs.Tables.{Table, IsTable, among}

-- the choice, of which the object identifier is taken first
module _ {V : Type 0} (C : Choice V) (c : IsLawfulChoice C) where
  pub choice_has_read : {k : ℕ} {old mid new : Position} {key : List ℕ} {v : V} → HasReadElement 0x06 old mid key → HasReadComponents (after_oid key C) k mid new v → HasReadComponents C.components k old new v
  choice_has_read {k} {old} {mid} {new} {key} {v} t g = record {
    reads = subst (λ b. C.components.Reads k b v) (sym t.split) g.reads;
    done = g.done;
    beyond = g.beyond ∙ t.beyond;
    end = g.end ∙ t.end;
    refused = g.refused;
    at_least = omega (arith, g.at_least, t.headers);
    at_most = omega (arith, g.at_most, t.headers, ap length t.split, length-append (element 0x06 key) mid.left, element_long 0x06 key);
  }

  pub after_refused : {k : ℕ} {old mid new : Position} {key : List ℕ} {e : Error} → HasReadElement 0x06 old mid key → HasRefusedComponents (after_oid key C) k mid new e → HasRefusedComponents C.components k old new e
  after_refused {k} {old} {mid} {new} {key} {e} t g = record {
    kind = g.kind;
    none = λ m v s. g.none m v (subst (λ b. C.components.Reads k b v) t.split s);
    counts = omega (arith, g.counts, t.headers);
    at_most = omega (arith, g.at_most, t.headers, ap length t.split, length-append (element 0x06 key) mid.left, element_long 0x06 key);
  }

  pub oid_refused : {k : ℕ} {old new : Position} {e : Error} → RefusedElement 0x06 old new e → HasRefusedComponents C.components k old new e
  oid_refused {k} {old} g = record {
    kind = g.long;
    none = λ m v s. let h = c.heads k old.left v s in g.none (C.oid_of v) h.0 h.1;
    counts = omega (arith, g.headers);
    at_most = omega (arith, g.headers);
  }

-- the bytes determine the first object identifier and what follows it
other_key : (o key x y : List ℕ) → element 0x06 key ++ x ≡ element 0x06 o ++ y → (key ≡ o) × (x ≡ y)
other_key o key x y e = let c = element_cut 0x06 0x06 key o x y e in (c.1, c.2)

key_read : {V : Type 0} (C : Choice V) → IsLawfulChoice C → (k : ℕ) (key x : List ℕ) (v : V) → C.components.Reads k (element 0x06 key ++ x) v → C.oid_of v ≡ key
key_read C c k key x v s = same_head (C.oid_of v) key (element 0x06 key ++ x) (c.heads k (element 0x06 key ++ x) v s) (x, refl)

-- the alternative of one object identifier
module _ {V W : Type 0} (o : List ℕ) (R : Format V) (C : Choice W) (c : IsLawfulChoice C) {k : ℕ} {key : List ℕ} where
  pub here : {old new : Position} {v : V} → key ≡ o → HasReadComponents R k old new v → HasReadComponents (after_oid key (known o R C)) k old new (inl v)
  here {old} h g = record {
    reads = (old.left, ap (λ p. element 0x06 p ++ old.left) h, g.reads);
    done = g.done;
    beyond = g.beyond;
    end = g.end;
    refused = g.refused;
    at_least = omega (arith, g.at_least);
    at_most = g.at_most;
  }

  none_here : {left : List ℕ} {e : Error} → key ≡ o → (e ≢ Memory → (v : V) → R.Reads k left v → ⊥) → e ≢ Memory → (v : V ⊎ W) → (known o R C).components.Reads k (element 0x06 key ++ left) v → ⊥
  none_here {left} h g m (inl v) s = g m v (subst (λ b. R.Reads k b v) (sym (other_key o key left s.0 s.1).1) s.2)
  none_here {left} h g m (inr w) s = s.1 (key_read C c k key left w s.0 ∙ h)

  pub here_refused : {old new : Position} {e : Error} → key ≡ o → HasRefusedComponents R k old new e → HasRefusedComponents (after_oid key (known o R C)) k old new e
  here_refused {old} {new} {e} h g = record { kind = g.kind; none = none_here {e = e} h g.none; counts = g.counts; at_most = g.at_most }

  pub there : {old new : Position} {w : W} → (key ≡ o → ⊥) → HasReadComponents (after_oid key C) k old new w → HasReadComponents (after_oid key (known o R C)) k old new (inr w)
  there {old} {new} {w} n g = record {
    reads = (g.reads, λ e. n (sym (key_read C c k key old.left w g.reads) ∙ e));
    done = g.done;
    beyond = g.beyond;
    end = g.end;
    refused = g.refused;
    at_least = g.at_least;
    at_most = g.at_most;
  }

  none_there : (left : List ℕ) {e : Error} → (key ≡ o → ⊥) → (e ≢ Memory → (w : W) → C.components.Reads k (element 0x06 key ++ left) w → ⊥) → e ≢ Memory → (v : V ⊎ W) → (known o R C).components.Reads k (element 0x06 key ++ left) v → ⊥
  none_there left n g m (inl v) s = n (other_key o key left s.0 s.1).0
  none_there left n g m (inr w) s = g m w s.0

  pub there_refused : {old new : Position} {e : Error} → (key ≡ o → ⊥) → HasRefusedComponents (after_oid key C) k old new e → HasRefusedComponents (after_oid key (known o R C)) k old new e
  there_refused {old} {new} {e} n g = record { kind = g.kind; none = none_there old.left n g.none; counts = g.counts; at_most = g.at_most }

some_none : {A : Type 0} {x : A} → None ≡ Some x → ⊥
some_none e = cc

-- the alternatives of a table
module _ {A V W : Type 0} (T : Table A) (R : Format V) (C : Choice W) (t : IsTable T) (c : IsLawfulChoice C) {k : ℕ} {key : List ℕ} where
  pub alternative : {old new : Position} {a : A} {v : V} → T.oid_of a ≡ key → HasReadComponents R k old new v → HasReadComponents (after_oid key (among T R C)) k old new (inl (a, v))
  alternative {old} h g = record {
    reads = (old.left, ap (λ p. element 0x06 p ++ old.left) (sym h), g.reads);
    done = g.done;
    beyond = g.beyond;
    end = g.end;
    refused = g.refused;
    at_least = omega (arith, g.at_least);
    at_most = g.at_most;
  }

  none_in_alternative : {left : List ℕ} {e : Error} (a : A) → T.oid_of a ≡ key → (e ≢ Memory → (v : V) → R.Reads k left v → ⊥) → e ≢ Memory → (v : (A × V) ⊎ W) → (among T R C).components.Reads k (element 0x06 key ++ left) v → ⊥
  none_in_alternative {left} a h g m (inl p) s = g m p.1 (subst (λ b. R.Reads k b p.1) (sym (other_key (T.oid_of p.0) key left s.0 s.1).1) s.2)
  none_in_alternative {left} a h g m (inr w) s = some_none (sym s.1 ∙ ap T.alternative_of (key_read C c k key left w s.0 ∙ sym h) ∙ t.there a)

  pub alternative_refused : {old new : Position} {a : A} {e : Error} → T.oid_of a ≡ key → HasRefusedComponents R k old new e → HasRefusedComponents (after_oid key (among T R C)) k old new e
  alternative_refused {old} {new} {a} {e} h g = record { kind = g.kind; none = none_in_alternative {e = e} a h g.none; counts = g.counts; at_most = g.at_most }

  pub no_alternative : {old new : Position} {w : W} → T.alternative_of key ≡ None → HasReadComponents (after_oid key C) k old new w → HasReadComponents (after_oid key (among T R C)) k old new (inr w)
  no_alternative {old} {new} {w} n g = record {
    reads = (g.reads, ap T.alternative_of (key_read C c k key old.left w g.reads) ∙ n);
    done = g.done;
    beyond = g.beyond;
    end = g.end;
    refused = g.refused;
    at_least = g.at_least;
    at_most = g.at_most;
  }

  none_beyond : (left : List ℕ) {e : Error} → T.alternative_of key ≡ None → (e ≢ Memory → (w : W) → C.components.Reads k (element 0x06 key ++ left) w → ⊥) → e ≢ Memory → (v : (A × V) ⊎ W) → (among T R C).components.Reads k (element 0x06 key ++ left) v → ⊥
  none_beyond left n g m (inl p) s = some_none (sym n ∙ ap T.alternative_of (other_key (T.oid_of p.0) key left s.0 s.1).0 ∙ t.there p.0)
  none_beyond left n g m (inr w) s = g m w s.0

  pub no_alternative_refused : {old new : Position} {e : Error} → T.alternative_of key ≡ None → HasRefusedComponents (after_oid key C) k old new e → HasRefusedComponents (after_oid key (among T R C)) k old new e
  no_alternative_refused {old} {new} {e} n g = record { kind = g.kind; none = none_beyond old.left n g.none; counts = g.counts; at_most = g.at_most }

not_long : {P : Type 0} {e : Error} → IsRefusal P e → e ≢ TooLong
not_long (inl m) n = (let h : Memory ≡ TooLong = sym m ∙ n in cc)
not_long (inr i) n = (let h : Invalid ≡ TooLong = sym i.0 ∙ n in cc)

-- any object identifier, as the last alternative
module _ {V : Type 0} (R : Format V) {k : ℕ} (key : List ℕ) where
  pub last : {old new : Position} {v : V} → IsOid key → HasReadComponents R k old new v → HasReadComponents (after_oid key (otherwise IsOid R)) k old new (key, v)
  last {old} {new} {v} i g = record {
    reads = (element 0x06 key, old.left, refl, (refl, i), g.reads);
    done = g.done;
    beyond = g.beyond;
    end = g.end;
    refused = g.refused;
    at_least = omega (arith, g.at_least);
    at_most = g.at_most;
  }

  pub last_refused : {old new : Position} {e : Error} → HasRefusedComponents R k old new e → HasRefusedComponents (after_oid key (otherwise IsOid R)) k old new e
  last_refused {old} g = record {
    kind = g.kind;
    none = λ m v s. g.none m v.1 (subst (λ b. R.Reads k b v.1) (sym (other_key v.0 key old.left s.1 (s.2 ∙ ap (λ a. a ++ s.1) s.3.0)).1) s.4);
    counts = g.counts;
    at_most = g.at_most;
  }

  -- these octets are no object identifier's, or there is no memory for them
  no_oid : (left : List ℕ) {e : Error} → IsRefusal (IsOid key → ⊥) e → e ≢ Memory → (v : List ℕ × V) → (otherwise IsOid R).components.Reads k (element 0x06 key ++ left) v → ⊥
  no_oid left (inl h) m v s = m h
  no_oid left (inr h) m v s = h.1 (subst IsOid (sym (other_key v.0 key left s.1 (s.2 ∙ ap (λ a. a ++ s.1) s.3.0)).0) s.3.1)

  pub no_last : {old : Position} {e : Error} → IsRefusal (IsOid key → ⊥) e → HasRefusedComponents (after_oid key (otherwise IsOid R)) k old old e
  no_last {old} {e} h = record { kind = not_long h; none = no_oid old.left h; counts = omega arith; at_most = omega arith }
