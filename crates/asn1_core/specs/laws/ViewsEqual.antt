-- Laws of `ViewsEqual.antt`.
use Rattle.std.specs.Prelude.{◌≡◌, ◌↔◌, ◌⊎◌, Bool, true}
use Rattle.std.proofs.Common.{ap, inl, inr}
use Rattle.std.proofs.lemmas.Slice.Eq.{bytes_eq-Decides}
use Rattle.asn1_core_oid.specs.OidValue.{octets_of}
use Rattle.asn1_core_oid.specs.laws.OidValueLaws.{equal_octets}
use Rattle.asn1_core.specs.contracts.objects.ObjectIdentifierAsn1PartialEq.TheImpl as Oid
use Rattle.asn1_core_format.specs.Views.{SeesEqual}
use Rattle.asn1_core_format.specs.laws.Views.{list_equal, option_equal, two_equal}
use Rattle.asn1_core.specs.ViewsEqual.{octets_equal, raw_equal}

pub oid_equal : SeesEqual Oid.ghosts.eq (λ x. octets_of x.0)
oid_equal x y = equal_octets x.0 y.0

-- a last field
pub with_end : {A : Type 0} {p : Bool} {a c : A} → (p ≡ true) ↔ (a ≡ c) → (p ≡ true) ↔ (◌≡◌ {A = A × Unit {0}} (a, tt) (c, tt))
with_end f = (λ e. ap (λ x. (x, tt)) (f.0 e), λ e. f.1 (ap (λ x. x.0) e))

-- what one alternative of two holds
pub same_first : {A B : Type 0} {p : Bool} {a c : A} → (p ≡ true) ↔ (a ≡ c) → (p ≡ true) ↔ (◌≡◌ {A = A ⊎ B} (inl a) (inl c))
same_first {A} {B} {p} {a} {c} f = (λ e. ap inl (f.0 e), λ e. (let h : a ≡ c = cc in f.1 h))

pub same_second : {A B : Type 0} {p : Bool} {a c : B} → (p ≡ true) ↔ (a ≡ c) → (p ≡ true) ↔ (◌≡◌ {A = A ⊎ B} (inr a) (inr c))
same_second {A} {B} {p} {a} {c} f = (λ e. ap inr (f.0 e), λ e. (let h : a ≡ c = cc in f.1 h))

-- by which `search` finds that the derived `==` of a struct is equality of what it contains
pub ruleset der_equal = (two_equal, with_end, option_equal, list_equal, oid_equal, octets_equal, raw_equal, bytes_eq-Decides)
