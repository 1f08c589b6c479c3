-- What an encoding is converted to, by where it is in the contents of another.
use Rattle.std.specs.Prelude.{ℕ, Bool, not, List, get_or, nat_eq, nat_lt, ◌&&◌, ◌||◌, if◌then◌else◌}
use Rattle.ber_der.specs.declared.contexts.Role.{Role}
use Rattle.ber_der.specs.declared.contexts.Role.TheVariants.{Whole, Segment, Implicit}
use Rattle.ber_der.specs.declared.contexts.Context.{Context}
use Rattle.ber_der.specs.declared.contexts.Context.TheVariants.{First, AfterType, AfterAlgorithm, Other, InString}

-- BER doesn't say what a constructed encoding under an implicit tag is. The encrypted content of CMS (RFC 5652, 6.1) is
-- the one OCTET STRING under such a tag that is streamed: after an object identifier and an algorithm, under the tag [0],
-- with an indefinite length.
abbrev pub role_in : Context → List ℕ → Role
role_in InString b = Segment
role_in AfterAlgorithm b = if nat_eq (get_or b 0 0) 160 && nat_eq (get_or b 1 0) 128 then Implicit else Whole
role_in First b = Whole
role_in AfterType b = Whole
role_in Other b = Whole

-- the context after an encoding with that tag
abbrev pub context_after : Context → ℕ → Context
context_after InString tag = InString
context_after First tag = if nat_eq tag 6 then AfterType else Other
context_after AfterType tag = if nat_eq tag 48 then AfterAlgorithm else Other
context_after AfterAlgorithm tag = Other
context_after Other tag = Other

-- the context at the start of the contents of a constructed encoding
abbrev pub context_inside : Role → ℕ → Context
context_inside Whole tag = if nat_eq tag 48 then First else if nat_eq tag 36 then InString else Other
context_inside Segment tag = InString
context_inside Implicit tag = InString

-- the tag in DER of what is constructed in BER (10.2: an OCTET STRING is primitive)
abbrev pub der_tag : Role → ℕ → ℕ
der_tag Implicit tag = 128
der_tag Whole tag = if nat_eq tag 36 then 4 else tag
der_tag Segment tag = if nat_eq tag 36 then 4 else tag

-- The tags that a constructed encoding may have: OCTET STRING, EXTERNAL, EMBEDDED PDV, SEQUENCE, SET, CHARACTER STRING,
-- and those of the other classes (X.680, table 1). Other strings in segments (8.6.4, 8.23) are left out.
abbrev pub may_be_constructed : ℕ → Bool
may_be_constructed tag = nat_lt 63 tag || (nat_eq tag 36 || (nat_eq tag 40 || (nat_eq tag 43 || (nat_eq tag 48 || (nat_eq tag 49 || nat_eq tag 61)))))

-- Whether a primitive encoding may have the tag and so many contents octets. The contents of a BOOLEAN are one octet
-- (8.2.1), and those of a NULL none (8.8.2). The encodings of EXTERNAL (8.18), EMBEDDED PDV (8.17), SEQUENCE (8.9.1), SET
-- (8.11.1) and CHARACTER STRING (8.24) are constructed.
abbrev pub may_be_primitive : ℕ → ℕ → Bool
may_be_primitive tag len = if nat_eq tag 1 then nat_eq len 1 else if nat_eq tag 5 then nat_eq len 0 else not (nat_eq tag 8 || (nat_eq tag 11 || (nat_eq tag 16 || (nat_eq tag 17 || nat_eq tag 29))))
