-- Laws of `Format.antt`.
use Rattle.std.specs.Prelude.{◌≡◌, ℕ, ◌&&◌, Bool, true}
use Rattle.std.proofs.lemmas.Bool.{and_parts}
use Rattle.asn1_core_format.specs.laws.FirstTags.{no_common_is}
use Rattle.asn1_core_format.specs.Format.{Format, are_distinct}

pub distinct_tags : {V W : Type 0} (F : Format V) (R : Format W) → are_distinct F R ≡ true → (t : ℕ) → F.IsTag t → R.IsTag t → ⊥
distinct_tags F R e t h i = no_common_is F.first.tags R.first.tags e t ((F.first.same t).0 h) ((R.first.same t).0 i)

-- the same of the rest, where a first test holds too
pub distinct_both : {V W : Type 0} (F : Format V) (R : Format W) (c : Bool) → (c && are_distinct F R) ≡ true → (c ≡ true) × ((t : ℕ) → F.IsTag t → R.IsTag t → ⊥)
distinct_both F R c e = let p = and_parts c (are_distinct F R) e in (p.0, distinct_tags F R p.1)
