-- Which strings are made from characters.
use Rattle.std.specs.Prelude.{◌≡◌, ℕ, List, Result, MatchResult, codes}
use Rattle.std.proofs.Common.{inl}
use Rattle.std.specs.List.{All, flat_map}
use Rattle.asn1_leaves_strings.specs.Bmp.{unit_octets}
use Rattle.asn1_leaves_strings.specs.BmpTexts.{IsOneUnit, WhyRefused}
use Rattle.asn1_leaves_strings.specs.declared.string_error.StringError.{StringError}
use Rattle.x509_base.specs.SpcLinks.{spc_string_value}
use Rattle.x509_base.specs.declared.spc.links.SpcString.{SpcString}

-- the Unicode string of the characters, or why there is none
abbrev pub StringGives : List ℕ → Result SpcString StringError → Type 0
StringGives characters result =
    MatchResult result
    (λ s. (spc_string_value s ≡ inl (flat_map unit_octets characters)) × All IsOneUnit characters)
    (WhyRefused characters)

-- the octets of the text of a file that names none
abbrev pub obsolete : List ℕ
obsolete = flat_map unit_octets (codes "<<<Obsolete>>>")
