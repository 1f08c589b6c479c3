-- What a walk finds is in that range of the input.
use Rattle.std.specs.Prelude.{◌≡◌, ◌+◌, ◌-◌, ℕ, List, ◌++◌, length, take, drop, slice_range}
use Rattle.std.proofs.Common.{ap, sym, ◌∙◌, subst, arith}
use Rattle.std.proofs.lemmas.List.{drop_at, take_at}
use Rattle.asn1_located.specs.Places.{IsRangeAt, Walk}
use Rattle.asn1_located.specs.laws.WalkLaws.{fits, walk_lies_in}
use Rattle.asn1_located.specs.declared.walks.Step.{Step}

pub range_of_walk : (steps : List Step) (b : List ℕ) (n : ℕ) (y : List ℕ) (end : ℕ) → end ≡ n + length y → Walk steps 0 b n y → IsRangeAt steps b n end
range_of_walk steps b n y end e w =
    let s = walk_lies_in steps 0 b n y w in
    let d : drop n b ≡ y ++ s.after = ap (drop n) s.is ∙ drop_at s.before (y ++ s.after) n (omega (arith, s.place)) in
    let t : slice_range b n end ≡ y = ap (take (end - n)) d ∙ take_at y s.after (end - n) (omega (arith, e)) in
    record { walk = subst (λ z. Walk steps 0 b n z) (sym t) w; inside = (omega (arith, e), omega (arith, e, fits s)) }
