-- What is put in order in a vector, and the values of what is in order.
use Rattle.std.specs.Prelude.{◌≡◌, ◌++◌, ℕ, List, length, map, take}
use Rattle.std.specs.List.{AllByRecursion}
use Rattle.std.proofs.Common.{arith, sym, ◌∙◌}
use Rattle.std.proofs.lemmas.List.{length-map, take-append-le, take_all}
use Rattle.std.proofs.lemmas.List.Sorted.{length_permutation}
use Rattle.asn1_core.specs.Der.{Format}
use Rattle.asn1_sets.proofs.Shuffled.{order_of}
use Rattle.asn1_sets.specs.Encodings.{AreEncodings}
use Rattle.asn1_sets.specs.Order.{IsInOrder}

-- what is in order fills the vector again
pub written_back : {X : Type 0} (octets : X → List ℕ) (n : ℕ) (old new rest : List X) → n ≡ length old → IsInOrder (map octets old) (map octets new) → take n (new ++ rest) ≡ new
written_back octets n old new rest e o =
    let l : length new ≡ n = sym (length-map new octets) ∙ length_permutation _ _ o.permutation ∙ length-map old octets ∙ sym e in
    take-append-le n new rest (omega (arith, l)) ∙ take_all n new (omega (arith, l))

pub are_encodings : {V : Type 0} (F : Format V) (values : List V) (texts : List (List ℕ)) → AllByRecursion (F.IsWellFormed 64) values → IsInOrder (map F.text values) texts → AreEncodings F values texts
are_encodings F values texts formed o =
    let s = order_of F.text values texts o.permutation in
    record { formed = formed; order = s.order; permutation = s.permutation; texts_are = sym s.images; sorted = o.sorted }
