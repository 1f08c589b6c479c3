use Rattle.std.specs.Str.{bytes_eq}
use Rattle.std.specs.List.{dedup}
use Rattle.std.specs.List.Sorted.{IsPermutation, IsSorted}
use Rattle.std.proofs.Common.{ap, refl, rules, subst, sym, ◌∙◌}
use Rattle.asn1_sets.specs.Encodings.{HasNoTexts}
use Rattle.asn1_sets.specs.Order.{compared}
use Rattle.signed_writers.proofs.Deduped.{map_dedup}
use Rattle.signed_writers.specs.PartValues.{algorithms_in}
use Rattle.signed_writers.specs.Parts.{AreFormed}
use Rattle.signed_writers.specs.Signed.{is_same}
use Rattle.signer_ranges.specs.SignerRoutes.{ALGORITHM}
use Rattle.signer_ranges.specs.Signers.{algorithm_text}
use Rattle.signed_writers.proofs.write.algorithm_texts.Goals as goal

pub returns-in_err-texts : goal.returns-in_err-texts
returns-in_err-texts c =
    let same = ap (λ l. algorithms_in l) c.as_slice.ensures.value ∙ c.in_ok-all.ensures in
    let r = subst (λ l. HasNoTexts ALGORITHM.format (AreFormed l) l c.in_err-texts.field-0.0) same c.in_err-texts.ensures in
    search rules

pub returns : goal.returns
returns c =
    let same = ap (λ l. algorithms_in l) c.as_slice.ensures.value ∙ c.in_ok-all.ensures in
    let enc = c.in_ok-texts.ensures in
    record {
      formed = subst AreFormed same enc.formed;
      all = dedup is_same enc.order;
      distinct = record {
        order = enc.order;
        permutation = subst (λ l. IsPermutation l enc.order) same enc.permutation;
        sorted = subst (IsSorted compared) enc.texts_are enc.sorted;
        once = refl;
      };
      texts_are = c.drop_repeated.ensures ∙ ap (dedup bytes_eq) enc.texts_are ∙ sym (map_dedup algorithm_text is_same bytes_eq (λ a b. refl) enc.order);
    }
