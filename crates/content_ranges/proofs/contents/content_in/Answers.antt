use Rattle.std.specs.Prelude.{Some}
use Rattle.std.proofs.Common.{ap, refl, sym, ◌∙◌}
use Rattle.asn1_core.specs.Der.{option_value}
use Rattle.content_ranges.proofs.ContentPlaces.{place_fits}
use Rattle.content_ranges.specs.Contents.{HasElement}
use Rattle.signer_ranges.specs.Files.{file_value}
use Rattle.content_ranges.proofs.contents.content_in.Goals as goal

pub returns-in-Err : goal.returns-in-Err
returns-in-Err g c =
    let v = file_value c.args.file.now in
    let has : HasElement c.args.oid.now c.args.input.now v c.as_slice.result.now = record {
      is_value = c.requires;
      of_type = c.if-not-is_oid_of.ensures.0 refl;
      is_element = ap (option_value (λ x. x.0.0.items)) c.in-Some.is ∙ ap Some (sym c.as_slice.ensures.value);
    } in (
      record { value = v; element = c.as_slice.result.now; has = has; none = c.in-Err.ensures.0 },
      place_fits c.args.oid.now c.args.input.now v c.as_slice.result.now has c.content_place.result c.content_place.ensures c.in-Err.place c.in-Err.ensures.1,
    )
