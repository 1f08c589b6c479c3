use Rattle.std.specs.Prelude.{map}
use Rattle.std.proofs.Common.{ap}
use Rattle.asn1_core.specs.Der.{option_value}
use Rattle.content_ranges.proofs.EntryPlaces.{no_entries, rows_are}
use Rattle.content_ranges.specs.TrustHeads.{trust_list_head_value, trusted_subject_value}
use Rattle.content_ranges.proofs.entries.rows_in.Goals as goal

pub returns-in-Some : goal.returns-in-Some
returns-in-Some c = λ v has.
    rows_are c.args.input.now v (trust_list_head_value c.args.list.now) has _ (ap (option_value (λ s. map trusted_subject_value s.0.items)) c.in-Some.is) (λ rows. rows.items) c.rows_of.result c.rows_of.ensures

pub returns-in-None : goal.returns-in-None
returns-in-None c = λ v has. no_entries c.args.input.now v (trust_list_head_value c.args.list.now) (ap (option_value (λ s. map trusted_subject_value s.0.items)) c.in-None.is) c.new.result.items c.new.ensures.items
