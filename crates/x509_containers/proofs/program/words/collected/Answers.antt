use Rattle.std.proofs.Common.{refl}
use Rattle.std.proofs.lemmas.Iterator.{items_from_collect}
use Rattle.std.proofs.lemmas.Iterator.Adapters.{YieldsList-from_vec}
use Rattle.std.specs.Vec.Iter.{into_iter_items}
use Rattle.x509_containers.proofs.program.words.collected.Goals as goal

pub returns : goal.returns
returns c =
    let words = c.args.words in
    items_from_collect c.collect.result c.collect.ensures.ran (YieldsList-from_vec (into_iter_items words) refl words.rest.ok.0)
