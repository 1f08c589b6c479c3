use Rattle.std.proofs.Common.{sym, subst}
use Rattle.std.proofs.lemmas.List.{take_rest}
use Rattle.pkcs7_verifier.specs.Hashed.{AreContentsOf}
use Rattle.pkcs7_verifier.specs.laws.Hashed.{contents_after_header, front_is_there}
use Rattle.pkcs7_verifier.proofs.hashed.contents_in.Goals as goal

pub unreachable-requires : goal.unreachable-requires
unreachable-requires c = front_is_there c.args.element.now c.requires c.in-None.ensures.none

pub returns : goal.returns
returns c =
    subst (λ o. AreContentsOf o c.args.element.now) (sym (take_rest c.args.element.now c.in-Some.size))
    (contents_after_header c.args.element.now c.in-Some._tag c.in-Some._len c.in-Some.size c.requires c.in-Some.ensures.found)
