-- Routes to the parts of a value, in the words of X.680: a list of components with a mark at one of them, and routes one
-- after another. Each word computes the steps of the walk, and proves that they lead to that part.
use Rattle.std.specs.Prelude.{◌≡◌, ◌⊎◌, ◌+◌, ℕ, Bool, true, false, List, [], ◌∷◌, ◌++◌, length, Option, None, Some}
use Rattle.std.proofs.Common.{refl, sym, subst, inl, inr, arith}
use Rattle.asn1_core_element.specs.Element.{IsTagByte, element, head}
use Rattle.asn1_core_format.specs.Format.{Format, IsLawful, are_distinct}
use Rattle.asn1_core_format.specs.laws.Format.{distinct_tags}
use Rattle.asn1_core_format.specs.Asn1.{Asn1, Asn1Default, ComponentTypes, Distinct, HasTag, all_distinct, not_distinct_part, one_later, distinct_if, ◌then◌, ◌OPTIONAL◌, ◌DEFAULT◌}
use Rattle.asn1_core_format.specs.Components.{part, within}
use Rattle.asn1_core_format.specs.Leaf.{leaf, verbatim}
use Rattle.asn1_core_format.specs.Lists.{each}
use Rattle.asn1_core_format.specs.Choices.{Choice, known}
use Rattle.asn1_core_format.specs.Tagged.{IsTagged, implicit}
use Rattle.asn1_core.specs.Raw.{raw}
use Rattle.asn1_located.specs.Places.{Reading, Route, Walk}
use Rattle.asn1_located.specs.Finding.{Found, Skips, begins_part, contains_element, any_element, follows_many, follows_part}
use Rattle.asn1_located.specs.laws.Finding.{first_step, found_on, walk_under, past_omitted, past_optional}
use Rattle.asn1_located.specs.declared.walks.Step.{Step}
use Rattle.asn1_located.specs.declared.walks.Step.TheVariants.{Inside, Element, After, Past, Nth}

-- Components, of which one is marked.
pub record Mark : Type 1 where
  pub components : ComponentTypes
  pub part : Asn1
  pub steps : List Step
  pub IsPart : components.Value → part.Value → Type 0
  pub found : components.distinct ≡ all_distinct → (k : ℕ) (v : components.Value) (w : part.Value) → IsPart v w → (m : ℕ) (x : List ℕ) → components.format.Reads k x v → Found steps m x (λ y. part.format.Reads k y w)

later : (t : Distinct) → one_later t ≡ all_distinct → t ≡ all_distinct
later all_distinct e = refl
later (not_distinct_part n) e = cc

both_distinct : (b : Bool) (t : Distinct) → distinct_if b t ≡ all_distinct → (b ≡ true) × (t ≡ all_distinct)
both_distinct true t e = (refl, later t e)
both_distinct false t e = cc

infixr 5 ◌here◌
infixr 5 ◌before◌
infixr 5 ◌maybe◌
infixr 5 ◌default◌
infixr 5 ◌there◌
infixr 5 ◌given◌
pub here_found : (a : Asn1) (r : ComponentTypes) (k : ℕ) (v : a.Value × r.Value) (w : a.Value) → w ≡ v.0 → (m : ℕ) (x : List ℕ) → (part a.format r.format).Reads k x v → Found (Element ∷ []) m x (λ y. a.format.Reads k y w)
here_found a r k v w o m x s = (m, s.0, (m, s.0, begins_part a.format r.format a.law k m x v s, (refl, refl)), subst (a.format.Reads k s.0) (sym o) s.3)

-- the marked one, and those after it
abbrev pub ◌here◌ : Asn1 → ComponentTypes → Mark
a here r = record { components = a then r; part = a; steps = Element ∷ []; IsPart = λ v w. w ≡ v.0; found = λ _. here_found a r }

pub before_found : (a : Asn1) (r : Mark) → one_later r.components.distinct ≡ all_distinct → (k : ℕ) (v : a.Value × r.components.Value) (w : r.part.Value) → r.IsPart v.1 w → (m : ℕ) (x : List ℕ) → (part a.format r.components.format).Reads k x v → Found (After ∷ r.steps) m x (λ y. r.part.format.Reads k y w)
before_found a r e k v w o m x s =
    first_step After r.steps m (m + length s.0) x s.1 (λ y. r.part.format.Reads k y w) (follows_part a.format r.components.format a.law k m x v s) (r.found (later r.components.distinct e) k v.1 w o (m + length s.0) s.1 s.4)

-- a component before the marked one
abbrev pub ◌before◌ : Asn1 → Mark → Mark
a before r = record { components = a then r.components; part = r.part; steps = After ∷ r.steps; IsPart = λ v w. r.IsPart v.1 w; found = before_found a r }

-- a type with one tag
pub record Tagged : Type 1 where
  pub type : Asn1
  pub tag : ℕ
  pub tagged : IsTagged tag type.format

abbrev pub with_tag : (tag : ℕ) (type : Asn1) → type.tag ≡ Some tag → Tagged
with_tag tag type is = record { type = type; tag = tag; tagged = subst (λ t. HasTag t type.format) is type.tagged }

pub maybe_found : (a : Tagged) (r : Mark) → (a.type OPTIONAL r.components).distinct ≡ all_distinct → (k : ℕ) (v : Option a.type.Value × r.components.Value) (w : r.part.Value) → r.IsPart v.1 w → (m : ℕ) (x : List ℕ) → (a.type OPTIONAL r.components).format.Reads k x v → Found (Past a.tag ∷ r.steps) m x (λ y. r.part.format.Reads k y w)
maybe_found a r e k v w o m x s =
    let d = both_distinct (are_distinct a.type.format r.components.format) r.components.distinct e in
    let p = past_optional a.type.format r.components.format a.type.law (r.components.law d.1) a.tag (λ t. (a.tagged.tags t).0) ((a.tagged.tags a.tag).1 refl) (distinct_tags a.type.format r.components.format d.0) k m x v s in
    first_step (Past a.tag) r.steps m p.0 x p.1 (λ y. r.part.format.Reads k y w) p.2 (r.found d.1 k v.1 w o p.0 p.1 p.3)

-- an OPTIONAL one before it
abbrev pub ◌maybe◌ : Tagged → Mark → Mark
a maybe r = record { components = a.type OPTIONAL r.components; part = r.part; steps = Past a.tag ∷ r.steps; IsPart = λ v w. r.IsPart v.1 w; found = maybe_found a r }

-- a type with one tag and a DEFAULT
pub record TaggedDefault : Type 1 where
  pub type : Asn1Default
  pub tag : ℕ
  pub tagged : IsTagged tag type.type.format

abbrev pub default_with_tag : (tag : ℕ) (type : Asn1Default) → type.type.tag ≡ Some tag → TaggedDefault
default_with_tag tag type is = record { type = type; tag = tag; tagged = subst (λ t. HasTag t type.type.format) is type.type.tagged }

pub default_found : (a : TaggedDefault) (r : Mark) → (a.type DEFAULT r.components).distinct ≡ all_distinct → (k : ℕ) (v : a.type.type.Value × r.components.Value) (w : r.part.Value) → r.IsPart v.1 w → (m : ℕ) (x : List ℕ) → (a.type DEFAULT r.components).format.Reads k x v → Found (Past a.tag ∷ r.steps) m x (λ y. r.part.format.Reads k y w)
default_found a r e k v w o m x s =
    let F = a.type.type.format in
    let d = both_distinct (are_distinct F r.components.format) r.components.distinct e in
    let p = past_omitted F r.components.format a.type.type.law (r.components.law d.1) a.tag (λ t. (a.tagged.tags t).0) ((a.tagged.tags a.tag).1 refl) (distinct_tags F r.components.format d.0) a.type.text k m x v s in
    first_step (Past a.tag) r.steps m p.0 x p.1 (λ y. r.part.format.Reads k y w) p.2 (r.found d.1 k v.1 w o p.0 p.1 p.3)

-- one with a DEFAULT before it
abbrev pub ◌default◌ : TaggedDefault → Mark → Mark
a default r = record { components = a.type DEFAULT r.components; part = r.part; steps = Past a.tag ∷ r.steps; IsPart = λ v w. r.IsPart v.1 w; found = default_found a r }

pub there_found : (a : Asn1) (r : ComponentTypes) (k : ℕ) (v : Option a.Value × r.Value) (w : a.Value) → v.0 ≡ Some w → (m : ℕ) (x : List ℕ) → (a OPTIONAL r).format.Reads k x v → Found (Element ∷ []) m x (λ y. a.format.Reads k y w)
there_found a r k (None, u) w o m x s = absurd (let n : None ≡ Some w = o in cc)
there_found a r k (Some v, u) w o m x s = here_found a r k (v, u) w (let e : Some v ≡ Some w = o in cc) m x s

-- the marked one is OPTIONAL, and there
abbrev pub ◌there◌ : Asn1 → ComponentTypes → Mark
a there r = record { components = a OPTIONAL r; part = a; steps = Element ∷ []; IsPart = λ v w. v.0 ≡ Some w; found = λ _. there_found a r }

pub given_found : (a : Asn1Default) (r : ComponentTypes) (k : ℕ) (v : a.type.Value × r.Value) (w : a.type.Value) → (w ≡ v.0) × ((j : ℕ) → a.type.format.Reads j a.text v.0 → ⊥) → (m : ℕ) (x : List ℕ) → (a DEFAULT r).format.Reads k x v → Found (Element ∷ []) m x (λ y. a.type.format.Reads k y w)
given_found a r k v w o m x (inl s) = absurd (o.1 k s.0)
given_found a r k v w o m x (inr s) = here_found a.type r k v w o.0 m x s

-- the marked one has a DEFAULT, which it isn't
abbrev pub ◌given◌ : Asn1Default → ComponentTypes → Mark
a given r = record { components = a DEFAULT r; part = a.type; steps = Element ∷ []; IsPart = λ v w. (w ≡ v.0) × ((j : ℕ) → a.type.format.Reads j a.text v.0 → ⊥); found = λ _. given_found a r }

module _ {V : Type 0} (tag : ℕ) (h : IsTagByte tag) (R : Format V) where
  pub into : (k m : ℕ) (x : List ℕ) (v : V) (steps : List Step) (B : List ℕ → Type 0) → ((n : ℕ) (y : List ℕ) → R.Reads k y v → Found steps n y B) → (within tag R).Reads k x v → Found (Inside ∷ steps) m x B
  into k m x v steps B next s =
      first_step Inside steps m (m + length (head tag (length s.0))) x s.0 B (contains_element m tag x s.0 h s.1) (next (m + length (head tag (length s.0))) s.0 s.2)

  -- to what is in an element: in an EXPLICIT tag, or an OCTET STRING around an encoding
  abbrev pub enclosed : Route (within tag R).Reads R.Reads
  enclosed = record { steps = Inside ∷ []; IsPart = λ v w. w ≡ v; found = λ k v w o m x s. into k m x v [] (λ y. R.Reads k y w) (λ n y t. (n, y, (refl, refl), subst (R.Reads k y) (sym o) t)) s }

-- to the marked component of a SEQUENCE, or of another element of that tag
abbrev pub component : (tag : ℕ) → IsTagByte tag → (p : Mark) → p.components.distinct ≡ all_distinct → Route (within tag p.components.format).Reads p.part.format.Reads
component tag h p e = record {
  steps = Inside ∷ p.steps;
  IsPart = p.IsPart;
  found = λ k v w o m x s. into tag h p.components.format k m x v p.steps (λ y. p.part.format.Reads k y w) (λ n y t. p.found e k v w o n y t) s;
}

module _ {V : Type 0} (tag : ℕ) (h : IsTagByte tag) (F : Format V) (f : IsLawful F) (i : ℕ) where
  pub item_found : (k : ℕ) (vs : List V) (w : V) → (rest : List V) × Skips i vs (w ∷ rest) → (n : ℕ) (y : List ℕ) → (each F).Reads k y vs → Found (Nth i ∷ Element ∷ []) n y (λ z. F.Reads k z w)
  item_found k vs w (rest, o) n y s =
      let r = follows_many F f k i n y vs (w ∷ rest) o s in
      let t = r.3 in
      (r.0, t.0, (r.0, r.1, r.2, (r.0, t.0, record { rest = t.1; is = any_element F.IsTag t.0 (f.element k t.0 w t.3); split = t.2; place = refl }, (refl, refl))), t.3)

  -- to the item with an index of a SEQUENCE OF, or of a list in another element
  abbrev pub item : Route (within tag (each F)).Reads F.Reads
  item = record {
    steps = Inside ∷ Nth i ∷ Element ∷ [];
    IsPart = λ vs w. (rest : List V) × Skips i vs (w ∷ rest);
    found = λ k vs w o m x s. into tag h (each F) k m x vs (Nth i ∷ Element ∷ []) (λ z. F.Reads k z w) (λ n y t. item_found k vs w o n y t) s;
  }

-- To a part of what is under an IMPLICIT tag: by the same steps, of which the first leads into the element.
module _ {V W : Type 0} {S : Reading W} (tag inner : ℕ) (h : IsTagByte tag) (F : Format V) (route : Route F.Reads S) (rest : List Step) (e : route.steps ≡ Inside ∷ rest) where
  pub under_found : (k : ℕ) (v : V) (w : W) → route.IsPart v w → (m : ℕ) (x : List ℕ) → (implicit tag inner F).Reads k x v → Found route.steps m x (λ y. S k y w)
  under_found k v w o m x (c, is, s) =
      let f = route.found k v w o m (element inner c) s in
      let walk : Walk (Inside ∷ rest) m (element inner c) f.0 f.1 = subst (λ steps. Walk steps m (element inner c) f.0 f.1) e f.2 in
      subst (λ steps. Found steps m x (λ y. S k y w)) (sym e) (f.0, f.1, walk_under tag inner h rest m x c f.0 f.1 is walk, f.3)

  abbrev pub under : Route (implicit tag inner F).Reads S
  under = record { steps = route.steps; IsPart = route.IsPart; found = under_found }

-- to the value itself
abbrev pub self : {V : Type 0} {R : Reading V} → Route R R
self {V} {R} = record { steps = []; IsPart = λ v w. w ≡ v; found = λ k v w o m x s. (m, x, (refl, refl), subst (R k x) (sym o) s) }

-- at 64 levels, whatever the level of what is around it
abbrev pub fixed : {V : Type 0} → Reading V → Reading V
fixed R k b v = R 64 b v

-- to what an element of any type is read as, by a type of its own
abbrev pub opened : {W : Type 0} (G : Format W) → Route raw.Reads (fixed G.Reads)
opened G = record {
  steps = [];
  IsPart = λ v w. G.Reads 64 v w;
  found = λ k v w o m x s. (m, x, (refl, refl), subst (λ y. G.Reads 64 y w) (sym s.0) o);
}

-- a route in it
abbrev pub again : {V W : Type 0} {R : Reading V} {S : Reading W} → Route R S → Route (fixed R) (fixed S)
again r = record { steps = r.steps; IsPart = r.IsPart; found = λ k v w o m x s. r.found 64 v w o m x s }

-- octets as they are
abbrev pub as_is : Reading (List ℕ)
as_is k b v = b ≡ v

-- to the contents octets of an OCTET STRING, or of another leaf that is its octets
abbrev pub octets : (tag : ℕ) → IsTagByte tag → (P : List ℕ → Type 0) → Route (leaf tag (verbatim P)).Reads as_is
octets tag h P = record {
  steps = Inside ∷ [];
  IsPart = λ v w. w ≡ v;
  found = λ k v w o m x s. (m + length (head tag (length v)), v, (m + length (head tag (length v)), v, contains_element m tag x v h s.0, (refl, refl)), sym o);
}

pub known_found : {V W : Type 0} (o : List ℕ) (R : Format V) (C : Choice W) (k : ℕ) (v : V ⊎ W) (w : V) → v ≡ inl w → (m : ℕ) (x : List ℕ) → (known o R C).components.Reads k x v → Found (After ∷ []) m x (λ y. R.Reads k y w)
known_found o R C k (inl v) w e m x s =
    (m + length (element 0x06 o), s.0, (m + length (element 0x06 o), s.0, record { element = element 0x06 o; is = record { tag = 0x06; contents = o; is_tag = omega arith; is = refl; allowed = tt }; split = s.1; place = refl }, (refl, refl)), subst (R.Reads k s.0) (let g : inl v ≡ inl w = e in cc) s.2)
known_found o R C k (inr v) w e m x s = absurd (let g : inr v ≡ inl w = e in cc)

-- to what follows a known object identifier, in a SEQUENCE
abbrev pub known_body : {V W : Type 0} (o : List ℕ) (R : Format V) (C : Choice W) → Route (within 0x30 (known o R C).components).Reads R.Reads
known_body {V} {W} o R C = record {
  steps = Inside ∷ After ∷ [];
  IsPart = λ v w. v ≡ inl w;
  found = λ k v w e m x s. into 0x30 (omega arith) (known o R C).components k m x v (After ∷ []) (λ y. R.Reads k y w) (λ n y t. known_found o R C k v w e n y t) s;
}

infixr 6 ◌▸◌
-- one route after another
abbrev pub ◌▸◌ : {U V W : Type 0} {R : Reading U} {S : Reading V} {T : Reading W} → Route R S → Route S T → Route R T
◌▸◌ {U} {V} {W} {R} {S} {T} p q = record {
  steps = p.steps ++ q.steps;
  IsPart = λ u w. (v : V) × p.IsPart u v × q.IsPart v w;
  found = λ k u w o m x r. found_on p.steps q.steps m x (λ y. S k y o.0) (λ y. T k y w) (p.found k u o.0 o.1 m x r) (λ n y s. q.found k o.0 w o.2 n y s);
}
