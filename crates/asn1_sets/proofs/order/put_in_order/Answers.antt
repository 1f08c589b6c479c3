use Rattle.std.specs.Ordering.{is_lt}
use Rattle.std.proofs.Common.{ap}
use Rattle.std.proofs.lemmas.Cmp.{nat_list_cmp_total}
use Rattle.std.proofs.lemmas.List.MinMax.{ranks_by}
use Rattle.std.proofs.lemmas.List.Sorted.{answers_always, IsPermutation-map}
use Rattle.asn1_sets.proofs.Mapped.{sorted_map}
use Rattle.asn1_sets.specs.Order.{compared}
use Rattle.asn1_sets.proofs.order.put_in_order.Goals as goal

pub returns : goal.returns
returns c =
    let ranks = ranks_by nat_list_cmp_total (λ x. x.0.items) in
    let sorted = c.sort_unstable_by.ensures.sorted _ ranks (answers_always _ _ _ (λ f a r f' k. ap is_lt k.met)) in
    record {
      permutation = IsPermutation-map (λ x. x.0.items) _ _ c.sort_unstable_by.ensures.permutation;
      sorted = sorted_map (λ x y. is_lt (compared x y)) (λ x. x.0.items) _ sorted;
    }
