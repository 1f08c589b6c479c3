use Rattle.enveloped_writers.proofs.RecipientVersions.{by_contents}
use Rattle.enveloped_writers.proofs.versions.is_of_version.Goals as goal

pub returns-in-Some : goal.returns-in-Some
returns-in-Some c = by_contents c.args.version c.args.octets.now c.in-Some.contents.now c.begins_with.result c.in-Some.ensures c.begins_with.ensures
