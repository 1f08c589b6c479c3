use Rattle.std.proofs.Common.{ap}
use Rattle.pkcs7_content.specs.Contents.{content_components_value}
use Rattle.pkcs7_content.proofs.Fits.{none_fits, fits_as}
use Rattle.pkcs7_content.proofs.contents.fits.Goals as goal

pub returns-in-None : goal.returns-in-None
returns-in-None c = fits_as c.args.limit c.with_oid-kind.ensures (ap content_components_value c.in-None.is) c.is_plain.ensures (none_fits c.args.limit c.with_oid-kind.result)
