use Rattle.std.proofs.Common.{◌∙◌, ap, refl, arith, length-take, length-drop}
use Rattle.asn1_core_element.proofs.Headers.{unread, sizes, split_at_header, contents_fit, beyond_stays}
use Rattle.asn1_core_element.proofs.reader.Reader.header.Goals as goal

pub invariant_of-self : goal.invariant_of-self
invariant_of-self c =
    let i = c.self.inside in
    let s = sizes i.rest.now i.room c.in-Some.tag c.in-Some.n c.in-Some.size c.self.invariant.0 c.in-Some.ensures.found in
    (rw (length-take, length-drop) (omega (arith, c.self.invariant.0)), rw (length-take, length-drop) (omega arith), omega (arith, s.0, s.1, c.self.invariant.2))

pub returns-in-Some : goal.returns-in-Some
returns-in-Some c =
    let i = c.self.inside in
    rw (← c.self.view_is) (record {
      is_tag = c.in-Some.ensures.found.is_tag;
      split = split_at_header i.rest.now i.room c.in-Some.tag c.in-Some.n c.in-Some.size c.self.invariant.0 c.in-Some.ensures.found;
      fits = contents_fit i.rest.now i.room c.in-Some.tag c.in-Some.n c.in-Some.size c.self.invariant.0 c.in-Some.ensures.found;
      beyond = beyond_stays i.rest.now i.room c.in-Some.tag c.in-Some.n c.in-Some.size c.self.invariant.0 c.in-Some.ensures.found;
      end = refl;
      headers = refl;
      from_header = unread i.rest.now i.room c.self.invariant.0;
      refused = ap (λ p. p.refused) c.self.view_is ∙ c.requires;
    })
