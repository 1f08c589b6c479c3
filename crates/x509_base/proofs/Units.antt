-- The octets of the text of a file that names none.
use Rattle.std.proofs.Common.{◌≡◌, ℕ, List, refl, rules}
use Rattle.std.specs.Prelude.{codes}
use Rattle.std.specs.List.{All}
use Rattle.asn1_leaves_strings.specs.Bmp.{IsBmp}
use Rattle.asn1_leaves_strings.specs.laws.BmpLaws.{IsBmp-chars}
use Rattle.asn1_leaves_strings.specs.BmpTexts.{IsOneUnit}
use Rattle.x509_base.specs.SpcTexts.{obsolete}

obsolete_low : All IsOneUnit (codes "<<<Obsolete>>>")
obsolete_low = search rules

pub obsolete_is_bmp : (octets : List ℕ) → octets ≡ obsolete → IsBmp octets
obsolete_is_bmp octets e = rw e (IsBmp-chars (codes "<<<Obsolete>>>") refl obsolete_low)
