use Rattle.std.proofs.Common.{rules}
use Rattle.asn1_core_format.specs.laws.Whole.{rewriting}
use Rattle.asn1_core_format.proofs.whole.to_vec.Goals as goal

pub returns-clause-rewriting : goal.returns-clause-rewriting
returns-clause-rewriting g c = λ f k.
    let r = rewriting g.T.DerSerialize.format k (g.T.DerSerialize.value c.args.value.now) f in
    search rules
