use Rattle.std.proofs.lemmas.Str.{IsUtf8-string_bytes}
use Rattle.asn1_leaves_strings.specs.laws.StringLaws.{bmp_octets}
use Rattle.asn1_leaves_strings.proofs.BmpTextReads.{no_text, first_unit, one_more_unit, all_text}
use Rattle.asn1_leaves_strings.proofs.bmp_string.BmpString.to_text.Goals as goal

pub loop-rest-init : goal.loop-rest-init
loop-rest-init c =
    rw c.new-text.ensures.bytes (rw c.as_bytes-rest.ensures (no_text _ (bmp_octets c.args.self.now)))

pub character_of-requires : goal.character_of-requires
character_of-requires c = first_unit _ _ _ c.in-len2-up.len_at_least c.loop-rest.invariant

pub loop-rest-preserved : goal.loop-rest-preserved
loop-rest-preserved c =
    one_more_unit _ _ _ c.loop-rest.rest.now _ c.in-len2-up.len_at_least (IsUtf8-string_bytes c.loop-rest.text) c.character_of.ensures c.in_ok-push.ensures.bytes c.loop-rest.invariant

pub returns : goal.returns
returns c = all_text _ _ _ c.in_default.len_below c.loop-rest.invariant
