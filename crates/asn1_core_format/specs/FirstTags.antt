-- First tags as expressions, of which it is computed whether two have a tag in common.
use Rattle.std.specs.Prelude.{◌≡◌, ◌↔◌, ◌⊎◌, ℕ, Bool, true, false, not, ◌&&◌, ◌||◌, eqb}
use Rattle.std.proofs.Common.{inl, inr}
use Rattle.asn1_core_element.specs.Element.{IsTagByte}

-- no tag, one, those of two, all but some, and every tag byte
pub data Tags : Type 0 where
  none : Tags
  one : ℕ → Tags
  both : Tags → Tags → Tags
  but : Tags → Tags
  every : Tags

abbrev pub IsIn : Tags → ℕ → Type 0
IsIn none t = ⊥
IsIn (one u) t = t ≡ u
IsIn (both a b) t = IsIn a t ⊎ IsIn b t
IsIn (but a) t = IsIn a t → ⊥
IsIn every t = IsTagByte t

-- whether the tag may be in, or must be in
abbrev pub is_in : Tags → Bool → ℕ → Bool
is_in none may t = false
is_in (one u) may t = eqb t u
is_in (both a b) may t = is_in a may t || is_in b may t
is_in (but a) may t = not (is_in a (not may) t)
is_in every may t = may

-- tags as an expression
pub record Listing (IsTag : ℕ → Type 0) : Type 0 where
  pub tags : Tags
  pub same : (t : ℕ) → IsTag t ↔ IsIn tags t

abbrev pub no_tag : Listing (λ _. ⊥)
no_tag = record { tags = none; same = λ t. (λ h. h, λ h. h) }

abbrev pub any_tag : Listing (λ _. Unit {0})
any_tag = record { tags = but none; same = λ t. (λ h e. e, λ h. tt) }

abbrev pub one_tag : (tag : ℕ) → Listing (λ t. t ≡ tag)
one_tag tag = record { tags = one tag; same = λ t. (λ h. h, λ h. h) }

abbrev pub tag_bytes : Listing IsTagByte
tag_bytes = record { tags = every; same = λ t. (λ h. h, λ h. h) }

abbrev pub both_tags : {S T : ℕ → Type 0} → Listing S → Listing T → Listing (λ t. S t ⊎ T t)
both_tags {S} {T} a b = record {
  tags = both a.tags b.tags;
  same = λ t. (
    λ h. elim h [ inl x ↦ inl ((a.same t).0 x) | inr y ↦ inr ((b.same t).0 y) ],
    λ h. elim h [ inl x ↦ inl ((a.same t).1 x) | inr y ↦ inr ((b.same t).1 y) ],
  );
}

abbrev pub other_tags : {S : ℕ → Type 0} → Listing S → Listing (λ t. S t → ⊥)
other_tags a = record { tags = but a.tags; same = λ t. (λ h x. h ((a.same t).1 x), λ h x. h ((a.same t).0 x)) }

-- whether there are no tags
abbrev pub is_none : Tags → Bool
is_none none = true
is_none (one u) = false
is_none (both a b) = is_none a && is_none b
is_none (but a) = false
is_none every = false

-- whether all tags of the first are in the second
abbrev pub is_inside : Tags → Tags → Bool
is_inside none b = true
is_inside (one t) b = is_in b false t
is_inside (both a c) b = is_inside a b && is_inside c b
is_inside (but a) b = false
is_inside every b = false

-- whether no tag is in both
abbrev pub is_distinct : Tags → Tags → Bool
is_distinct none b = true
is_distinct (one t) b = not (is_in b true t)
is_distinct (both a c) b = is_distinct a b && is_distinct c b
is_distinct (but a) b = is_inside b a
is_distinct every b = is_none b

-- the same, which computes too where nothing is known of the first and the second has none
abbrev pub no_common : Tags → Tags → Bool
no_common a b = is_none b || is_distinct a b
