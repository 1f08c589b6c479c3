use Rattle.std.proofs.Common.{subst, sym}
use Rattle.bag_ranges.specs.Contained.{LeadsIn, value_steps}
use Rattle.bag_ranges.proofs.bags.value_range.Goals as goal

pub returns-in-Certificate : goal.returns-in-Certificate
returns-in-Certificate c = subst (λ k. LeadsIn (value_steps k) c.args.input.now c.args.bag.now c.x509_octets.result) (sym c.in-Certificate.is) c.x509_octets.ensures

pub returns-in-OtherCertificate : goal.returns-in-OtherCertificate
returns-in-OtherCertificate c = subst (λ k. LeadsIn (value_steps k) c.args.input.now c.args.bag.now c.other_element.result) (sym c.in-OtherCertificate.is) c.other_element.ensures

pub returns-in-Crl : goal.returns-in-Crl
returns-in-Crl c = subst (λ k. LeadsIn (value_steps k) c.args.input.now c.args.bag.now c.x509_octets-in-Crl.result) (sym c.in-Crl.is) c.x509_octets-in-Crl.ensures

pub returns-in-OtherCrl : goal.returns-in-OtherCrl
returns-in-OtherCrl c = subst (λ k. LeadsIn (value_steps k) c.args.input.now c.args.bag.now c.other_element-in-OtherCrl.result) (sym c.in-OtherCrl.is) c.other_element-in-OtherCrl.ensures

pub returns-in-ShroudedKey : goal.returns-in-ShroudedKey
returns-in-ShroudedKey c = subst (λ k. LeadsIn (value_steps k) c.args.input.now c.args.bag.now c.element_of_bag.result) (sym c.in-ShroudedKey.is) c.element_of_bag.ensures

pub returns-in-Key : goal.returns-in-Key
returns-in-Key c = subst (λ k. LeadsIn (value_steps k) c.args.input.now c.args.bag.now c.element_of_bag-in-Key.result) (sym c.in-Key.is) c.element_of_bag-in-Key.ensures

pub returns-in-Secret : goal.returns-in-Secret
returns-in-Secret c = subst (λ k. LeadsIn (value_steps k) c.args.input.now c.args.bag.now c.element_of_bag-in-Secret.result) (sym c.in-Secret.is) c.element_of_bag-in-Secret.ensures

pub returns-in-SafeContents : goal.returns-in-SafeContents
returns-in-SafeContents c = subst (λ k. LeadsIn (value_steps k) c.args.input.now c.args.bag.now c.element_of_bag-in-SafeContents.result) (sym c.in-SafeContents.is) c.element_of_bag-in-SafeContents.ensures

pub returns-in-Other : goal.returns-in-Other
returns-in-Other c = subst (λ k. LeadsIn (value_steps k) c.args.input.now c.args.bag.now c.element_of_bag-in-Other.result) (sym c.in-Other.is) c.element_of_bag-in-Other.ensures

pub returns-in-Unread : goal.returns-in-Unread
returns-in-Unread c = subst (λ k. LeadsIn (value_steps k) c.args.input.now c.args.bag.now c.element_of_bag-in-Unread.result) (sym c.in-Unread.is) c.element_of_bag-in-Unread.ensures
