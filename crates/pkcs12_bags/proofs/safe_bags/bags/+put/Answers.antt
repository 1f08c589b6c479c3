use Rattle.std.proofs.Common.{inl, sym, subst, rules}
use Rattle.pkcs12_bags.specs.Attributes.{attributes_value}
use Rattle.pkcs12_bags.specs.Bags.{nested_choice}
use Rattle.pkcs12_bags.specs.laws.BagLevels.{row_holder, contents_text}
use Rattle.pkcs12_bags.specs.BagValues.{contents_value}
use Rattle.pkcs12_bags.proofs.safe_bags.bags.+put.Goals as goal

pub SafeBagWriteComponents::put_components-returns-in-SafeContents : goal.SafeBagWriteComponents::put_components-returns-in-SafeContents
SafeBagWriteComponents::put_components-returns-in-SafeContents g m c =
    let v = row_holder c.args.self.now c.in-SafeContents.is in
    let t : g.W.Writer.Takes (nested_choice.components.text (inl (contents_value c.in-SafeContents.bags, attributes_value c.args.self.now.attributes))) c.args.w.now c.put_bag-in-SafeContents.new.w c.put_bag-in-SafeContents.result = search rules in
    subst (λ x. g.W.Writer.Takes (nested_choice.components.text x) c.args.w.now c.put_bag-in-SafeContents.new.w c.put_bag-in-SafeContents.result) (sym v) t

pub SafeContentsDerSerialize::put-returns : goal.SafeContentsDerSerialize::put-returns
SafeContentsDerSerialize::put-returns g m c =
    subst (λ x. g.W.Writer.Takes x c.args.w.now c.put_within.new.w c.put_within.result) (contents_text c.args.self.now) c.put_within.ensures.text
