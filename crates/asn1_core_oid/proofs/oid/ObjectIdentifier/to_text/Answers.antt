use Rattle.asn1_core_oid.proofs.Arcs.{text_written}
use Rattle.asn1_core_oid.proofs.oid.ObjectIdentifier.to_text.Goals as goal

pub returns : goal.returns
returns c =
    let s = rw (c.deref.ensures.value, ← c.as_slice.ensures.value) at c.in_ok-groups.ensures in
    text_written c.as_slice.result.now _ _ s c.first_arcs-first.ensures c.in_ok-text.ensures.ok c.in_ok-write_arcs.ensures
