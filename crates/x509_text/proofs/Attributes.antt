-- The texts of attributes, joined.
use Rattle.std.proofs.Common.{◌≡◌, ℕ, zero, suc, ◌<◌, List, [], ◌∷◌, ◌++◌, length, drop, get_or, map, Result, Ok, Err, MatchResult, inl, inr, ⊎_elim, refl, sym, ap, subst, ◌∙◌, arith}
use Rattle.std.proofs.lemmas.List.{append_assoc}
use Rattle.std.proofs.lemmas.Str.{chars-nil}
use Rattle.std.specs.Prelude.{String, string_bytes}
use Rattle.std.specs.Str.{chars}
use Rattle.asn1_core_element.specs.declared.error.Error.{Error}
use Rattle.asn1_core_element.specs.declared.error.Error.TheVariants.{Memory}
use Rattle.asn1_core_oid.specs.OidText.{IsTextOf, HasLongGroup}
use Rattle.asn1_core_oid.specs.Refusal.{IsRefusal}
use Rattle.asn1_core.specs.declared.lists.Asn1SetOf.{Asn1SetOf}
use Rattle.x509_base.specs.Names.{name_value, name_value_value, name_parts}
use Rattle.x509_base.specs.declared.names.Name.{Name}
use Rattle.x509_base.specs.declared.names.NameValue.{NameValue}
use Rattle.x509_text.specs.AttributeTypes.{short_names}
use Rattle.x509_text.specs.Characters.{characters, Appends}
use Rattle.x509_text.specs.Names.{before, IsBackwards, IsAttributeText, IsNameText, HasNoShortName, HasLongType, HasOne}
use Rattle.oid_names.specs.Tables.{IsNamed}
use Rattle.x509_text.specs.Values.{IsValueText, hexadecimal}

three : (old a b new x y z : List ℕ) → a ≡ old ++ x → b ≡ a ++ y → new ≡ b ++ z → new ≡ old ++ (x ++ (y ++ z))
three old a b new x y z e f g =
    g ∙ ap (λ l. l ++ z) (f ∙ ap (λ l. l ++ y) e) ∙ append_assoc (old ++ x) y z ∙ append_assoc old x (y ++ z)

module _ {Z : Type 0} (old a b new : String Z) (v : name_value.Value) (name : List ℕ) (e : characters a ≡ characters old ++ chars name) (f : characters b ≡ characters a ++ (61 ∷ [])) where
  pub short_written : (r : Result (Unit {0}) Error) → IsNamed short_names v.0 name → MatchResult r (λ _. Appends b new (IsValueText v.1.0)) (λ e. e ≡ Memory) → MatchResult r (λ _. Appends old new (IsAttributeText v)) (IsRefusal (HasLongType v))
  short_written (Ok u) named h =
      (chars name ++ (61 ∷ h.0), inl (record { short = name; value = h.0; named = named; shown = h.1; is = refl }), three (characters old) (characters a) (characters b) (characters new) (chars name) (61 ∷ []) h.0 e f h.2)
  short_written (Err m) named h = inl h

  pub dotted_written : (r : Result (Unit {0}) Error) → HasNoShortName v.0 → IsTextOf name v.0 → MatchResult r (λ _. characters new ≡ characters b ++ hexadecimal v.1.0) (λ e. e ≡ Memory) → MatchResult r (λ _. Appends old new (IsAttributeText v)) (IsRefusal (HasLongType v))
  dotted_written (Ok u) none spelled h =
      (chars name ++ (61 ∷ hexadecimal v.1.0), inr (record { none = none; dotted = name; spelled = spelled; is = refl }), three (characters old) (characters a) (characters b) (characters new) (chars name) (61 ∷ []) (hexadecimal v.1.0) e f h)
  dotted_written (Err m) none spelled h = inl h

pub long_type : {e : Error} (v : name_value.Value) → HasNoShortName v.0 → IsRefusal (HasLongGroup v.0) e → IsRefusal (HasLongType v) e
long_type v none r = ⊎_elim (λ m. inl m) (λ l. inr (l.0, (none, l.1))) r

pub separated : {A : Type 0} (separator : ℕ) (items : List A) (i : ℕ) → i < length items → before separator (drop i items) ≡ separator ∷ []
separated separator [] i h = absurd (omega (arith, h))
separated separator (x ∷ xs) zero h = refl
separated separator (x ∷ xs) (suc i) h = separated separator xs i (omega (arith, h))

pub one_long : {A : Type 0} (P : A → Type 0) (items : List A) (i : ℕ) (x : A) → (i < length items) × (x ≡ get_or items i x) → P x → HasOne P items
one_long P [] i x at p = absurd (omega (arith, at.0))
one_long P (y ∷ ys) zero x at p = inl (subst P at.1 p)
one_long P (y ∷ ys) (suc i) x at p = inr (one_long P ys i x (omega (arith, at.0), at.1) p)

pub long_at : {A : Type 0} {e : Error} (P : A → Type 0) (items : List A) (i : ℕ) (x : A) → (i < length items) × (x ≡ get_or items i x) → IsRefusal (P x) e → IsRefusal (HasOne P items) e
long_at P items i x at r = ⊎_elim (λ m. inl m) (λ l. inr (l.0, one_long P items i x at l.1)) r

pub backwards_of : {A B : Type 0} (f : A → B) (P : A → List ℕ → Type 0) (Q : B → List ℕ → Type 0) (separator : ℕ) → ((x : A) (t : List ℕ) → P x t → Q (f x) t) → (xs : List A) (t : List ℕ) → IsBackwards P separator xs t → IsBackwards Q separator (map f xs) t
backwards_of f P Q separator each [] t h = h
backwards_of f P Q separator each (x ∷ []) t h = (h.0, h.1, h.2, each x h.1 h.3, h.4)
backwards_of f P Q separator each (x ∷ y ∷ ys) t h = (h.0, h.1, backwards_of f P Q separator each (y ∷ ys) h.0 h.2, each x h.1 h.3, h.4)

pub one_of : {A B : Type 0} (f : A → B) (P : A → Type 0) (Q : B → Type 0) → ((x : A) → P x → Q (f x)) → (xs : List A) → HasOne P xs → HasOne Q (map f xs)
one_of f P Q each [] h = h
one_of f P Q each (x ∷ xs) h = ⊎_elim (λ p. inl (each x p)) (λ q. inr (one_of f P Q each xs q)) h

-- a name that is written to no text
abbrev IsSetText : Asn1SetOf NameValue → List ℕ → Type 0
IsSetText s t = IsBackwards (λ v. IsAttributeText (name_value_value v)) 43 s.0.items t

abbrev IsLongSet : Asn1SetOf NameValue → Type 0
IsLongSet s = HasOne (λ v. HasLongType (name_value_value v)) s.0.items

pub name_written : {Z : Type 0} (old new : String Z) (n : Name) → string_bytes old ≡ [] → Appends old new (IsBackwards IsSetText 44 n.0.0.items) → IsNameText (name_parts n) (characters new)
name_written old new n e w =
    let none : characters old ≡ [] = ap chars e ∙ chars-nil in
    let is : characters new ≡ w.0 = w.2 ∙ ap (λ l. l ++ w.0) none in
    subst (IsNameText (name_parts n)) (sym is) (backwards_of (λ s. map name_value_value s.0.items) IsSetText (IsBackwards IsAttributeText 43) 44 (λ s t h. backwards_of name_value_value (λ v. IsAttributeText (name_value_value v)) IsAttributeText 43 (λ v u k. k) s.0.items t h) n.0.0.items w.0 w.1)

pub name_refused : {e : Error} (n : Name) → IsRefusal (HasOne IsLongSet n.0.0.items) e → IsRefusal (HasOne (HasOne HasLongType) (name_parts n)) e
name_refused n r =
    ⊎_elim (λ m. inl m) (λ l. inr (l.0, one_of (λ s. map name_value_value s.0.items) IsLongSet (HasOne HasLongType) (λ s h. one_of name_value_value (λ v. HasLongType (name_value_value v)) HasLongType (λ v k. k) s.0.items h) n.0.0.items l.1)) r
