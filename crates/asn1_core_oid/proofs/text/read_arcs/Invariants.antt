use Rattle.std.proofs.Common.{◌≡◌, ◌<◌, ◌^◌, eqb, map, length, take, All}
use Rattle.std.specs.List.{slice_split}
use Rattle.std.specs.Fmt.{decimal}
use Rattle.asn1_core_oid.proofs.text.read_arcs.Given as goal

abbrev pub invariant-loop-numeral : goal.invariant-loop-numeral
invariant-loop-numeral l =
    record {
      read : map decimal l.arcs.items ≡ take (length l.yielded) (slice_split (λ b. eqb b 46) l.text);
      fit : All (λ n. n < 2 ^ 64) l.arcs.items;
    }
