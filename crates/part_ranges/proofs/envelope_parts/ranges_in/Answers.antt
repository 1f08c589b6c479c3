use Rattle.std.proofs.Common.{MatchResult, ap, subst, sym, ◌≡◌}
use Rattle.asn1_core.specs.Der.{option_value}
use Rattle.asn1_core_element.specs.declared.error.Error.TheVariants.{Memory}
use Rattle.part_ranges.proofs.Items.{algorithm_is, octets_are, of_found, recipients_found}
use Rattle.part_ranges.specs.EnvelopeParts.{AreEnvelopedIn}
use Rattle.part_ranges.specs.Enveloped.{envelope_value}
use Rattle.part_ranges.proofs.envelope_parts.ranges_in.Goals as goal

pub returns-in-Recipients : goal.returns-in-Recipients
returns-in-Recipients c =
    let v = envelope_value (λ x. x.0.items) c.args.file.now in
    subst (λ part. MatchResult c.recipient_ranges.result (λ found. AreEnvelopedIn part c.args.input.now v found.items) (λ e. e ≡ Memory)) (sym c.in-Recipients.is)
    (recipients_found c.args.input.now v c.requires (λ found. found.items) c.recipient_ranges.result c.recipient_ranges.ensures)

pub returns-in-EncryptionAlgorithm : goal.returns-in-EncryptionAlgorithm
returns-in-EncryptionAlgorithm c =
    let v = envelope_value (λ x. x.0.items) c.args.file.now in
    subst (λ part. MatchResult c.only.result (λ found. AreEnvelopedIn part c.args.input.now v found.items) (λ e. e ≡ Memory)) (sym c.in-EncryptionAlgorithm.is)
    (of_found (λ found is. algorithm_is c.args.input.now v c.requires c.algorithm_range.result c.algorithm_range.ensures found.items is) c.only.result c.only.ensures)

pub returns-in-Some : goal.returns-in-Some
returns-in-Some c =
    let v = envelope_value (λ x. x.0.items) c.args.file.now in
    subst (λ part. MatchResult c.only-in-Some.result (λ found. AreEnvelopedIn part c.args.input.now v found.items) (λ e. e ≡ Memory)) (sym c.in-EncryptedContent.is)
    (of_found (λ found is. octets_are c.args.input.now v c.requires c.in-Some._octets.0.0.items (ap (option_value (λ o. o.0.0.items)) c.in-Some.is) c.content_range.result c.content_range.ensures found.items is) c.only-in-Some.result c.only-in-Some.ensures)
