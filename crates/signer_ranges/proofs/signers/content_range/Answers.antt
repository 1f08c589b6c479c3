use Rattle.std.proofs.Common.{ap}
use Rattle.asn1_core.specs.Der.{option_value}
use Rattle.signer_ranges.proofs.FoundParts.{content_is, no_content}
use Rattle.signer_ranges.specs.Files.{file_value}
use Rattle.signer_ranges.proofs.signers.content_range.Goals as goal

pub returns-in-Some : goal.returns-in-Some
returns-in-Some c = λ is. content_is c.args.input.now (file_value c.args.file.now) is _ (ap (option_value (λ x. x.0.0.items)) c.in-Some.is) c.content_place.result c.content_place.ensures

pub returns-in-None : goal.returns-in-None
returns-in-None c = λ is. no_content c.args.input.now (file_value c.args.file.now) is (ap (option_value (λ x. x.0.0.items)) c.in-None.is)
