use Rattle.std.proofs.Common.{◌≢◌, sym, ap, ◌∙◌, inl}
use Rattle.std.proofs.lemmas.Result.{err_from_is_err_and}
use Rattle.asn1_core_element.specs.declared.error.Error.TheVariants.{Memory}
use Rattle.pkcs12_ber.specs.ContentInfos.{content_info_value}
use Rattle.pkcs12_ber.specs.Files.{HasNoContents}
use Rattle.pkcs12_ber.specs.Places.{InAuthSafe}
use Rattle.pkcs12_ber.specs.declared.reading.BufferOffset.TheVariants.{Contents}
use Rattle.pkcs12_ber.proofs.Exits.{refused, no_safe, no_value, in_data}
use Rattle.pkcs12_ber.proofs.reading.read_contents.Goals as goal

pub returns-in_err-der-in-Data : goal.returns-in_err-der-in-Data
returns-in_err-der-in-Data g c =
    let e = ap content_info_value c.in-Data.is ∙ ap inl (sym c.as_slice.ensures.value) in
    refused _ (λ e. e.0 ≢ Memory → HasNoContents g.R.DerSerialize.format (content_info_value c.args.content.now) × InAuthSafe (content_info_value c.args.content.now) e.1) (err_from_is_err_and c.from_residual.result c.from_residual.ensures.1)
    (λ m.
    let p = c.in_err-der-in-Data.ensures m in
    (no_safe g.R.DerSerialize.format (content_info_value c.args.content.now) c.as_slice.result.now e p.0, in_data _ e p.1))

pub returns-in-Err : goal.returns-in-Err
returns-in-Err g c =
    let e = ap content_info_value c.in-Data.is ∙ ap inl (sym c.as_slice.ensures.value) in
    λ m. (
      no_value g.R.DerSerialize.format (content_info_value c.args.content.now) c.as_slice.result.now c.in_ok-der-in-Data.der.items c.in-Err.error e c.in_ok-der-in-Data.ensures (rw (← c.as_slice-in-Data.ensures.value) c.in-Err.ensures.0) m,
      in_data (Contents c.in-Err.at) e (c.in_ok-der-in-Data.der.items, c.in_ok-der-in-Data.ensures, (rw (← c.as_slice-in-Data.ensures.value) c.in-Err.ensures.1)),
    )
