use Rattle.x509_containers.proofs.Asking.{asked_three}
use Rattle.x509_containers.proofs.program.words.asked.Goals as goal

pub returns-in-len3 : goal.returns-in-len3
returns-in-len3 c = asked_three _ c.args.words.now c.mode-item.result c.kind-item.result c.job.result c.in-len3.len_at_least c.in-len3.len_below c.mode-item.is c.kind-item.is (rw (← c.as_str.ensures.value, ← c.as_str-in-len3.ensures.value) c.job.ensures)
