-- The laws of tables of known object identifiers.
use Rattle.std.specs.Prelude.{◌≡◌, ℕ, Bool, true, false, List, [], ◌∷◌, Option, Some, map, if◌then◌else◌}
use Rattle.std.proofs.Common.{refl, sym, ap, ◌∙◌, subst}
use Rattle.std.proofs.Math.Bool.{Bool-set}
use mathlib.Core.HLevel.{Σ_prop_path}
use Rattle.std.proofs.lemmas.Bool.{and_parts}
use Rattle.std.proofs.lemmas.Slice.Eq.{bytes_eq-Decides}
use Rattle.std.specs.Str.{bytes_eq}
use Rattle.asn1_core.specs.Der.{IsOid, is_oid, oid_from_test}
use Rattle.asn1_choices.specs.Tables.{IsTable}
use Rattle.pkcs12_algs.specs.Tables.{alternative_with, table, is_listed, Listed, listed_where, listing, are_oids}

module _ {A : Type 0} (oid_of : A → List ℕ) where
  found : (t : Bool) (b a : A) (o : List ℕ) (rest : Option A) → (t ≡ true → o ≡ oid_of b) → (rest ≡ Some a → oid_of a ≡ o) → (if t then Some b else rest) ≡ Some a → oid_of a ≡ o
  found true b a o rest h g e = let s : b ≡ a = cc in ap oid_of (sym s) ∙ sym (h refl)
  found false b a o rest h g e = g e

  has_oid : (alternatives : List A) (o : List ℕ) (a : A) → alternative_with oid_of alternatives o ≡ Some a → oid_of a ≡ o
  has_oid [] o a e = cc
  has_oid (b ∷ alternatives) o a e = found (bytes_eq o (oid_of b)) b a o (alternative_with oid_of alternatives o) (bytes_eq-Decides o (oid_of b)).0 (has_oid alternatives o a) e

  -- alternatives of which each is found by its own object identifier are a table
  pub is_table : (alternatives : List A) → ((a : A) → alternative_with oid_of alternatives (oid_of a) ≡ Some a) → IsTable (table oid_of alternatives)
  is_table alternatives there = record { there = there; back = has_oid alternatives }

  valid_found : (t : Bool) (b a : A) (rest : Option A) → IsOid (oid_of b) → (rest ≡ Some a → IsOid (oid_of a)) → (if t then Some b else rest) ≡ Some a → IsOid (oid_of a)
  valid_found true b a rest h g e = let s : b ≡ a = cc in subst (λ x. IsOid (oid_of x)) s h
  valid_found false b a rest h g e = g e

  pub valid_alternative : (alternatives : List A) → are_oids (map oid_of alternatives) ≡ true → (o : List ℕ) (a : A) → alternative_with oid_of alternatives o ≡ Some a → IsOid (oid_of a)
  valid_alternative [] h o a e = cc
  valid_alternative (b ∷ alternatives) h o a e =
      let p = and_parts (is_oid (oid_of b)) (are_oids (map oid_of alternatives)) h in
      valid_found (bytes_eq o (oid_of b)) b a (alternative_with oid_of alternatives o) (oid_from_test (oid_of b) p.0) (valid_alternative alternatives p.1 o a) e

module _ (oids : List (List ℕ)) where
  -- that an object identifier is in the list has one proof
  pub one_listed : (a b : Listed oids) → a.0 ≡ b.0 → a ≡ b
  one_listed a b e = Σ_prop_path (λ o. Bool-set (is_listed oids o) true) e

  listed_there : (o : List ℕ) (t : Bool) (e : is_listed oids o ≡ t) (h : is_listed oids o ≡ true) → listed_where oids o t e ≡ Some (o, h)
  listed_there o true e h = ap (λ p. Some (o, p)) (Bool-set (is_listed oids o) true e h)
  listed_there o false e h = let f : false ≡ true = sym e ∙ h in cc

  listed_back : (o : List ℕ) (t : Bool) (e : is_listed oids o ≡ t) (a : Listed oids) → listed_where oids o t e ≡ Some a → a.0 ≡ o
  listed_back o true e a h = let s : ◌≡◌ {A = Listed oids} (o, e) a = cc in ap (λ x. x.0) (sym s)
  listed_back o false e a h = cc

  pub listing_is_table : IsTable (listing oids)
  listing_is_table = record {
    there = λ a. listed_there a.0 (is_listed oids a.0) refl a.1;
    back = λ o a h. listed_back o (is_listed oids o) refl a h;
  }

listed_valid : (t : Bool) (p o : List ℕ) (rest : Bool) → IsOid p → (t ≡ true → o ≡ p) → (rest ≡ true → IsOid o) → (if t then true else rest) ≡ true → IsOid o
listed_valid true p o rest h g f e = subst IsOid (sym (g refl)) h
listed_valid false p o rest h g f e = f e

pub valid_listed : (oids : List (List ℕ)) → are_oids oids ≡ true → (o : List ℕ) → is_listed oids o ≡ true → IsOid o
valid_listed [] h o e = cc
valid_listed (p ∷ oids) h o e =
    let q = and_parts (is_oid p) (are_oids oids) h in
    listed_valid (bytes_eq o p) p o (is_listed oids o) (oid_from_test p q.0) (bytes_eq-Decides o p).0 (valid_listed oids q.1 o) e
