use Rattle.asn1_located.specs.laws.LocatedLaws.{located}
use Rattle.example_places.specs.ParcelRoutes.{note}
use Rattle.example_places.proofs.note.Goals as goal

pub returns : goal.returns
returns c = λ v is. located note is c.walk.ensures
