use Rattle.std.proofs.Common.{rules}
use Rattle.store_calls.proofs.GivenBags.{a_name_unread, held_unread, key_id_unread, set_checked}
use Rattle.std.specs.Prelude.{map}
use Rattle.x509_base.specs.Names.{attribute_value}
use Rattle.store_calls.proofs.built_bags.checked.Goals as goal

pub returns-in_err-check_value : goal.returns-in_err-check_value
returns-in_err-check_value c = let r = held_unread c.args.input.now c.args.row.now _ c.in_err-check_value.ensures in search rules

pub returns-in_err-check_name_if : goal.returns-in_err-check_name_if
returns-in_err-check_name_if c = let r = a_name_unread c.args.input.now c.args.row.now _ c.in_err-check_name_if.ensures in search rules

pub returns-in_err-check_key_id_if : goal.returns-in_err-check_key_id_if
returns-in_err-check_key_id_if c = let r = key_id_unread c.args.input.now c.args.row.now _ c.in_err-check_key_id_if.ensures in search rules

pub returns : goal.returns
returns c =
    set_checked c.args.input.now c.args.row.now (λ set. map attribute_value set.items) c.in_ok-check_value.ensures c.in_ok-check_name_if.ensures c.in_ok-check_key_id_if.ensures
    c.further_if.result c.further_if.ensures
