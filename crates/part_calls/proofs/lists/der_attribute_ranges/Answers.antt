use Rattle.part_calls.proofs.Listed.{listed_attributes}
use Rattle.part_calls.proofs.lists.der_attribute_ranges.Goals as goal

pub returns : goal.returns
returns c =
    listed_attributes c.args.signed c.args.index c.args.input.now c.args.out.now c.put_some.new.out c.put_some.new.count c.put_some.new.place c.put_some.result c.attribute_ranges-found.result c.set_of.result
    c.set_of.ensures c.attribute_ranges-found.ensures c.put_some.ensures
