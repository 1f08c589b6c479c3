use Rattle.asn1_leaves_strings.proofs.BmpTextReads.{units_are_bmp}
use Rattle.asn1_leaves_strings.proofs.bmp_string.BmpString.from_text.Goals as goal

pub invariant_of-result : goal.invariant_of-result
invariant_of-result c =
    record { of_set = ∣ units_are_bmp _ _ c.utf8.text c.in_ok-octets.ensures ∣₁ }
