use Rattle.asn1_located.specs.laws.LocatedLaws.{located}
use Rattle.example_places.specs.ParcelRoutes.{data_of_stamp}
use Rattle.example_places.proofs.data_of_stamp.Goals as goal

pub returns : goal.returns
returns c = λ v is. located (data_of_stamp c.args.index) is c.walk.ensures
