use Rattle.x509_containers.proofs.KindLists.{every}
use Rattle.x509_containers.proofs.kinds.Kind.all.Goals as goal

pub returns-clause-every : goal.returns-clause-every
returns-clause-every c = every
