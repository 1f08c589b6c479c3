use Rattle.std.proofs.Common.{rules}
use Rattle.asn1_core_format.proofs.ComponentReads.{rest_refused}
use Rattle.asn1_core_format.proofs.tails.RequiredReadComponentsWith.read_components_with.Goals as goal

pub returns-in_err-rest : goal.returns-in_err-rest
returns-in_err-rest g c =
    let r = rest_refused g.A.DerSerialize.format g.R.WriteComponents.format g.met.A.DerDeserialize.lawful c.args.nest c.in_ok-first.ensures c.in_err-rest.ensures in
    search rules
