-- The versions of recipients, and of enveloped data.
use Rattle.std.specs.Prelude.{◌≡◌, ◌↔◌, ◌<◌, ℕ, zero, suc, IsTrue, Bool, true, false, List, [], ◌∷◌, length, map, slice_index_or, Option}
use Rattle.std.specs.List.{AllByRecursion}
use Rattle.std.proofs.Common.{ap, arith, inl, inr, subst, sym, true≢false, ◌++◌, ◌∙◌}
use Rattle.asn1_core.specs.Der.{ElementOctets, Octets, element}
use Rattle.asn1_core_element.specs.laws.ElementLaws.{element_cut}
use Rattle.enveloped_writers.specs.Elements.{Begins, IsOfVersion, IsPlain, IsVersion, IsVersionBy, has_password_or_other}

pub none : (n : ℕ) → IsTrue false ↔ Begins n []
none n = (λ e. absurd (true≢false (sym e)), λ (r, e). absurd (let m : [] ≡ 0x02 ∷ 0x01 ∷ n ∷ r = e in cc))

pub one : (n x : ℕ) → IsTrue false ↔ Begins n (x ∷ [])
one n x = (λ e. absurd (true≢false (sym e)), λ (r, e). absurd (let m : x ∷ [] ≡ 0x02 ∷ 0x01 ∷ n ∷ r = e in cc))

pub two : (n x y : ℕ) → IsTrue false ↔ Begins n (x ∷ y ∷ [])
two n x y = (λ e. absurd (true≢false (sym e)), λ (r, e). absurd (let m : x ∷ y ∷ [] ≡ 0x02 ∷ 0x01 ∷ n ∷ r = e in cc))

module _ (n x y z : ℕ) (rest : List ℕ) where
  begins_by : x ≡ 0x02 → y ≡ 0x01 → z ≡ n → x ∷ y ∷ z ∷ rest ≡ 0x02 ∷ 0x01 ∷ n ∷ rest
  begins_by a b c = cc

  first_is : (r : List ℕ) → x ∷ y ∷ z ∷ rest ≡ 0x02 ∷ 0x01 ∷ n ∷ r → x ≡ 0x02
  first_is r e = cc

  second_is : (r : List ℕ) → x ∷ y ∷ z ∷ rest ≡ 0x02 ∷ 0x01 ∷ n ∷ r → y ≡ 0x01
  second_is r e = cc

  third_is : (r : List ℕ) → x ∷ y ∷ z ∷ rest ≡ 0x02 ∷ 0x01 ∷ n ∷ r → z ≡ n
  third_is r e = cc

  pub three : (b : Bool) → (IsTrue b ↔ (x ≡ 0x02) × (y ≡ 0x01) × (z ≡ n)) → IsTrue b ↔ Begins n (x ∷ y ∷ z ∷ rest)
  three b is = (λ t. (let s = is.0 t in (rest, begins_by s.0 s.1 s.2)), λ (r, e). is.1 (first_is r e, second_is r e, third_is r e))

-- the contents say the version
pub by_contents : (n : ℕ) (e c : List ℕ) (b : Bool) → e ≡ element 0x30 c → (IsTrue b ↔ Begins n c) → IsTrue b ↔ IsOfVersion n e
by_contents n e c b same is = (
  λ t. (c, same, is.0 t),
  λ (d, other, begins). is.1 (subst (Begins n) (sym (element_cut 0x30 0x30 c d [] [] (ap (λ x. x ++ []) (sym same ∙ other))).1) begins),
)

-- the version of enveloped data
module _ (attributes : Option Octets) (recipients : List ElementOctets) where
  pub version_3 : has_password_or_other recipients ≡ true → (n : ℕ) → n ≡ 3 → IsVersion attributes recipients n
  version_3 t n is = subst (λ b. IsVersionBy b (IsPlain attributes recipients) n) (sym t) is

  pub version_0 : has_password_or_other recipients ≡ false → IsPlain attributes recipients → (n : ℕ) → n ≡ 0 → IsVersion attributes recipients n
  version_0 f plain n is = subst (λ b. IsVersionBy b (IsPlain attributes recipients) n) (sym f) (inl (plain, is))

  pub version_2 : has_password_or_other recipients ≡ false → (IsPlain attributes recipients → ⊥) → (n : ℕ) → n ≡ 2 → IsVersion attributes recipients n
  version_2 f not_plain n is = subst (λ b. IsVersionBy b (IsPlain attributes recipients) n) (sym f) (inr (not_plain, is))

-- where an item isn't of the version, not all are
pub not_all : {X : Type 0} (P : ElementOctets → Type 0) (f : X → ElementOctets) (xs : List X) (i : ℕ) (d : X) → i < length xs → (P (f (slice_index_or xs i d)) → ⊥) → AllByRecursion P (map f xs) → ⊥
not_all P f [] i d l none all = absurd (omega (arith, l))
not_all P f (x ∷ xs) zero d l none all = none all.0
not_all P f (x ∷ xs) (suc i) d l none all = not_all P f xs i d (omega (arith, l)) none all.1
