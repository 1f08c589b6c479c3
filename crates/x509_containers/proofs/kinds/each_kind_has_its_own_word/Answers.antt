use Rattle.x509_containers.proofs.KindLists.{own_words}
use Rattle.x509_containers.proofs.kinds.each_kind_has_its_own_word.Goals as goal

pub returns : goal.returns
returns c = own_words
