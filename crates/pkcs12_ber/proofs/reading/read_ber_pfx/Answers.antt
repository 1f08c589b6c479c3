use Rattle.std.proofs.Common.{◌≢◌, inl, inr}
use Rattle.std.proofs.lemmas.Result.{err_from_is_err_and}
use Rattle.asn1_core_element.specs.declared.error.Error.TheVariants.{Memory}
use Rattle.pkcs12_ber.specs.Files.{HasNoReading}
use Rattle.pkcs12_ber.specs.Pfxs.{ber_pfx_value}
use Rattle.pkcs12_ber.specs.Places.{LiesIn}
use Rattle.pkcs12_ber.proofs.Exits.{refused, no_file}
use Rattle.pkcs12_ber.proofs.Readings.{no_reading}
use Rattle.pkcs12_ber.proofs.reading.read_ber_pfx.Goals as goal

pub returns-in_err-octets : goal.returns-in_err-octets
returns-in_err-octets g c =
    refused _ (λ e. e.0 ≢ Memory → HasNoReading g.R.DerSerialize.format c.args.file.now × LiesIn c.args.file.now e.1) (err_from_is_err_and c.from_residual.result c.from_residual.ensures.1)
    (λ m. (no_file g.R.DerSerialize.format c.args.file.now c.in_err-octets.field-0.0.0 c.in_err-octets.ensures.0 m, inl c.in_err-octets.ensures.1))

pub returns-in_err-auth_safe : goal.returns-in_err-auth_safe
returns-in_err-auth_safe g c =
    refused _ (λ e. e.0 ≢ Memory → HasNoReading g.R.DerSerialize.format c.args.file.now × LiesIn c.args.file.now e.1) (err_from_is_err_and c.from_residual-in_err-auth_safe.result c.from_residual-in_err-auth_safe.ensures.1)
    (λ m.
    let p = c.in_err-auth_safe.ensures m in
    let w = ber_pfx_value c.in_ok-octets.octets in
    (no_reading g.R.DerSerialize.format g.met.R.DerDeserialize.lawful c.args.file.now w c.in_ok-octets.ensures p.0, inr (w, c.in_ok-octets.ensures, p.1)))
