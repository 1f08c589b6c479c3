use Rattle.cms_calls.proofs.TrustRows.{listed_entries}
use Rattle.cms_calls.proofs.trust_lists.der_trust_rows.Goals as goal

pub returns : goal.returns
returns c = listed_entries c.args.input.now c.args.out.now c.put_some.new.out c.put_some.new.count c.put_some.new.place c.put_some.result c.trust_rows.result c.trust_rows.ensures c.put_some.ensures
