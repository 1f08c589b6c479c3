use Rattle.std.proofs.Common.{MatchResult, subst, sym}
use Rattle.std.specs.Prelude.{◌≢◌}
use Rattle.asn1_core_element.specs.declared.error.Error.TheVariants.{Memory}
use Rattle.located_rows.specs.Rows.{AreRows, HasNoList, IsElementRange}
use Rattle.part_ranges.specs.SignerAttributes.{attributes_in}
use Rattle.part_ranges.proofs.attributes.some_ranges.Goals as goal

pub returns-in-Signed : goal.returns-in-Signed
returns-in-Signed c = subst (λ set. MatchResult c.rows_by.result (λ found. AreRows IsElementRange (attributes_in set c.args.index).steps 0 c.args.input.now found.items) (λ e. e ≢ Memory → HasNoList (attributes_in set c.args.index).steps 0 c.args.input.now)) (sym c.in-Signed.is) c.rows_by.ensures

pub returns-in-Unsigned : goal.returns-in-Unsigned
returns-in-Unsigned c = subst (λ set. MatchResult c.rows_by-in-Unsigned.result (λ found. AreRows IsElementRange (attributes_in set c.args.index).steps 0 c.args.input.now found.items) (λ e. e ≢ Memory → HasNoList (attributes_in set c.args.index).steps 0 c.args.input.now)) (sym c.in-Unsigned.is) c.rows_by-in-Unsigned.ensures
