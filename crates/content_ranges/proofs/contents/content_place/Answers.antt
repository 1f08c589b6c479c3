use Rattle.std.proofs.Common.{refl}
use Rattle.content_ranges.proofs.ContentPlaces.{no_place}
use Rattle.content_ranges.proofs.contents.content_place.Goals as goal

pub returns-in-None : goal.returns-in-None
returns-in-None c = no_place c.args.input.now c.in-None.ensures _ refl refl
