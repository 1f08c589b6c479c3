use Rattle.std.proofs.lemmas.Bool.{both_ways}
use Rattle.oid_names.proofs.NamedRows.{row_found, row_passed}
use Rattle.oid_names.proofs.tables.name_in.Goals as goal

pub returns-then-is_same : goal.returns-then-is_same
returns-then-is_same c = row_found _ _ _ _ c.loop-row-test.true c.loop-row.invariant.from (c.is_same.ensures.0 c.if-is_same.true)

pub loop-row-preserved : goal.loop-row-preserved
loop-row-preserved c =
    let passed = row_passed _ _ _ _ c.loop-row-test.true (λ e. both_ways c.is_same.result c.if-is_same.false (c.is_same.ensures.1 e)) in
    record {
      from = λ name h. c.loop-row.invariant.from name ((passed name).0 h);
      to = λ name h. (passed name).1 (c.loop-row.invariant.to name h);
    }
