use Rattle.std.specs.Str.{bytes_eq}
use Rattle.std.proofs.Common.{ap, refl, ◌∙◌}
use Rattle.std.proofs.lemmas.List.Filters.{dedup_is}
use Rattle.asn1_core.specs.contracts.raw.Asn1RawDerPartialEq.TheImpl as Raw
use Rattle.signed_writers.proofs.Deduped.{map_dedup}
use Rattle.signed_writers.specs.PartValues.{texts_in}
use Rattle.signed_writers.proofs.write.drop_repeated.Goals as goal

pub returns : goal.returns
returns c =
    ap (λ l. texts_in l) (dedup_is Raw.ghosts.eq _ _ c.dedup.ensures.filtered)
    ∙ map_dedup (λ x. x.0.items) Raw.ghosts.eq bytes_eq (λ x y. refl) c.args.texts.now.items
