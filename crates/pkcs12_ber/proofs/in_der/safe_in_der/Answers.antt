use Rattle.std.proofs.Common.{◌≢◌, List, map}
use Rattle.std.proofs.lemmas.Result.{err_from_is_err_and}
use Rattle.asn1_core_element.specs.declared.error.Error.TheVariants.{Memory}
use Rattle.pkcs12_ber.specs.ContentInfos.{content_info_value}
use Rattle.asn1_core.specs.Der.{Octets}
use Rattle.x509_pkcs12.specs.AuthSafes.{AuthSafeValue}
use Rattle.pkcs12_ber.specs.InDer.{safe, IsSafeInDer, HasNoSafe}
use Rattle.pkcs12_ber.specs.Places.{InOctets}
use Rattle.pkcs12_ber.proofs.Exits.{refused, in_octets}
use Rattle.pkcs12_ber.proofs.Safes.{no_contents, no_ders}
use Rattle.pkcs12_ber.proofs.in_der.safe_in_der.Goals as goal

pub returns-in-Err-from_bytes_located : goal.returns-in-Err-from_bytes_located
returns-in-Err-from_bytes_located c =
    λ m. (
      no_contents c.args.octets.now c.in-Ok.outer.items c.in-Ok.ensures c.in-Err-from_bytes_located.error (rw (← c.as_slice.ensures.value) c.in-Err-from_bytes_located.ensures.0) m,
      (c.in-Ok.outer.items, c.in-Ok.ensures, (rw (← c.as_slice.ensures.value) c.in-Err-from_bytes_located.ensures.1)),
    )

pub returns-in_err-contents : goal.returns-in_err-contents
returns-in_err-contents c =
    refused (λ der. IsSafeInDer c.args.octets.now der.items) (λ e. e.0 ≢ Memory → HasNoSafe c.args.octets.now × InOctets c.args.octets.now e.1) (err_from_is_err_and c.from_residual.result c.from_residual.ensures.1)
    (λ m.
    let contents : List (AuthSafeValue Octets) = map content_info_value c.in-Ok-from_bytes_located.safe.0.items in
    let reads : safe.Reads 64 c.in-Ok.outer.items contents = rw (← c.as_slice.ensures.value) c.in-Ok-from_bytes_located.ensures.reads in (
      no_ders c.args.octets.now c.in-Ok.outer.items c.in-Ok.ensures contents reads (rw (← c.as_slice-2.ensures.value) (c.in_err-contents.ensures m).0),
      in_octets c.args.octets.now c.in-Ok.outer.items contents c.in-Ok.ensures reads _ (rw (← c.as_slice-2.ensures.value) (c.in_err-contents.ensures m).1),
    ))
