use Rattle.std.proofs.Common.{subst, sym}
use Rattle.std.proofs.lemmas.Result.{err_from_is_err_and}
use Rattle.asn1_core.specs.Der.{HasRead, less}
use Rattle.asn1_core_format.proofs.LevelReads.{has_refused}
use Rattle.asn1_core_format.proofs.ComponentReads.{within_refused, within_has_read}
use Rattle.pkcs12_bags.specs.Bags.{nested_choice, bag_components, safe_bag, safe_contents}
use Rattle.pkcs12_bags.specs.laws.BagsLaws.{lawful_safe_bag, lawful_safe_contents}
use Rattle.pkcs12_bags.specs.laws.BagLevels.{value_rolled}
use Rattle.pkcs12_bags.specs.BagValues.{bag_value, contents_value}
use Rattle.pkcs12_bags.proofs.ContentsReads.{bag_refused, bag_has_read, contents_refused, contents_has_read}
use Rattle.pkcs12_bags.proofs.safe_bags.bags.+read.Goals as goal

pub SafeContentsDerDeserialize::read-read_list_with-requires-clause-lawful : goal.SafeContentsDerDeserialize::read-read_list_with-requires-clause-lawful
SafeContentsDerDeserialize::read-read_list_with-requires-clause-lawful m c = lawful_safe_bag

pub SafeContentsDerDeserialize::read-returns-in_err-bags : goal.SafeContentsDerDeserialize::read-returns-in_err-bags
SafeContentsDerDeserialize::read-returns-in_err-bags m c =
    has_refused contents_value safe_contents c.args.nest (err_from_is_err_and c.from_residual.result c.from_residual.ensures.1) (contents_refused c.args.nest c.in_err-bags.ensures)

pub SafeContentsDerDeserialize::read-returns : goal.SafeContentsDerDeserialize::read-returns
SafeContentsDerDeserialize::read-returns m c =
    subst (HasRead safe_contents c.args.nest c.args.r.now c.read_list_with.new.r) (sym (value_rolled c.in_ok-bags.bags)) (contents_has_read c.args.nest c.in_ok-bags.ensures)

pub SafeBagDerDeserialize::read-read_nested_or-requires-clause-lawful : goal.SafeBagDerDeserialize::read-read_nested_or-requires-clause-lawful
SafeBagDerDeserialize::read-read_nested_or-requires-clause-lawful m c = lawful_safe_contents

pub SafeBagDerDeserialize::read-returns-in_err-components : goal.SafeBagDerDeserialize::read-returns-in_err-components
SafeBagDerDeserialize::read-returns-in_err-components m c =
    let r = bag_refused c.args.nest (within_refused nested_choice.components c.args.nest 0x30 c.in_ok-outer.ensures c.in_err-components.ensures) in
    has_refused bag_value safe_bag c.args.nest (err_from_is_err_and c.from_residual-in_err-components.result c.from_residual-in_err-components.ensures.1) r

pub SafeBagDerDeserialize::read-returns : goal.SafeBagDerDeserialize::read-returns
SafeBagDerDeserialize::read-returns m c =
    let t = within_has_read nested_choice.components c.args.nest 0x30 c.in_ok-outer.ensures c.in_ok-components.ensures c.in_ok-end.ensures in
    bag_has_read c.args.nest (bag_value c.of_components.result) (subst (HasRead (bag_components (less safe_contents)) c.args.nest c.args.r.now c.end.new.self) (sym c.of_components.ensures) t)
