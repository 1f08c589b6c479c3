use Rattle.std.proofs.Common.{sym, ap, ◌∙◌, inl}
use Rattle.pkcs12_ber.specs.ContentInfos.{content_info_value}
use Rattle.pkcs12_ber.proofs.Exits.{written}
use Rattle.pkcs12_ber.proofs.in_der.append_in_der.Goals as goal

pub returns-in_ok-data-in-Data : goal.returns-in_ok-data-in-Data
returns-in_ok-data-in-Data c =
    let e = ap content_info_value c.in-Data.is ∙ ap inl (sym c.as_slice.ensures.value) in
    written (content_info_value c.args.content.now) (content_info_value c.in_ok-data-in-Data.data) c.as_slice.result.now c.args.out.now.items c.append.new.out.items c.append.result e c.in_ok-data-in-Data.ensures c.append.ensures
