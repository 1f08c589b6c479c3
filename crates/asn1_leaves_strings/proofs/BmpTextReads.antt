-- The octets of characters that fit a unit each, and the characters of octets.
use Rattle.std.proofs.Common.{◌≡◌, ℕ, ◌-◌, ◌/◌, ◌%◌, ◌<◌, ◌≤◌, List, [], ◌∷◌, ◌++◌, length, take, drop, get_or, map, map-id, refl, sym, ap, subst, ◌∙◌, arith}
use Rattle.std.proofs.lemmas.Bool.Decides.{nat_tests}
use Rattle.std.proofs.lemmas.Grind.{flat_map-append}
use Rattle.std.proofs.lemmas.List.{append_assoc, append-nil, take_all}
use Rattle.std.proofs.lemmas.List.Elements.{All-get_or}
use Rattle.std.proofs.lemmas.Str.{scalars-chars, chars-nil, chars-append, chars_past_char, IsUtf8-encode}
use Rattle.std.proofs.Math.Utf8.{encode}
use Rattle.std.specs.Char.{IsScalar}
use Rattle.std.specs.List.{All, flat_map}
use Rattle.std.specs.Str.{IsUtf8, chars}
use Rattle.asn1_leaves_strings.specs.Bmp.{IsBmp, IsBmpUnit, unit_octets}
use Rattle.asn1_leaves_strings.specs.BmpLaws.{unit_of}
use Rattle.asn1_leaves_strings.specs.laws.BmpLaws.{IsBmp-chars, IsBmp-first}
use Rattle.asn1_leaves_strings.specs.BmpTexts.{IsOneUnit, HoldsUnits}
use Rattle.asn1_leaves_strings.proofs.BmpReads.{is_even}

-- a character of the text that fits no unit
pub no_unit : (cs : List ℕ) (i c : ℕ) → (i < length cs) × (c ≡ get_or cs i c) → ¬ (IsOneUnit c) → ¬ (All IsOneUnit cs)
no_unit cs i c at not all = not (subst IsOneUnit (sym at.1) (All-get_or IsOneUnit cs i c at.0 all))

-- the items of a loop over the characters
pub units_held : (cs ys octets : List ℕ) → map (λ c. c) ys ≡ cs → HoldsUnits ys octets → HoldsUnits cs octets
units_held cs ys octets e held = subst (λ xs. HoldsUnits xs octets) (sym (map-id ys) ∙ e) held

pub units_are_bmp : (bs octets : List ℕ) → IsUtf8 bs → HoldsUnits (chars bs) octets → IsBmp octets
units_are_bmp bs octets text held = rw held.0 (IsBmp-chars (chars bs) (scalars-chars bs text) held.1)

-- octets of which those before the rest were made text
pub record IsTextBefore (octets text rest : List ℕ) : Type 0 where
  pub left : IsBmp rest
  pub all : octets ≡ flat_map unit_octets (chars text) ++ rest

pub no_text : (octets : List ℕ) → IsBmp octets → IsTextBefore octets [] octets
no_text octets is =
    let none : chars [] ≡ [] = chars-nil in
    record { left = is; all = rw none refl }

one_character : (c : ℕ) → IsScalar c → chars (encode c) ≡ c ∷ []
one_character c is = chars_past_char (encode c) [] c (IsUtf8-encode c is) (sym (append-nil (encode c))) ∙ ap (λ cs. c ∷ cs) chars-nil

scalar_unit : (c : ℕ) → IsBmpUnit c → IsScalar c
scalar_unit c is = let low : c < 65536 = is.0 in grind (arith, nat_tests)

-- the first unit of what is left
pub first_unit : (octets text rest : List ℕ) → 2 ≤ length rest → IsTextBefore octets text rest → IsBmpUnit (unit_of (get_or rest 0 0) (get_or rest 1 0))
first_unit octets text [] some b = absurd (omega (arith, some))
first_unit octets text (a ∷ []) some b = absurd (omega (arith, some))
first_unit octets text (high ∷ low ∷ after) some b = (IsBmp-first high low after b.left).first

more : (octets text new : List ℕ) (high low c : ℕ) (after : List ℕ) → IsUtf8 text → c ≡ unit_of high low → new ≡ text ++ encode c → IsTextBefore octets text (high ∷ low ∷ after) → IsTextBefore octets new after
more octets text new high low c after valid is n b =
    let f = IsBmp-first high low after b.left in
    let h : c / 256 ≡ high = omega (arith, is, f.high_octet, f.low_octet) in
    let l : c % 256 ≡ low = omega (arith, is, f.high_octet, f.low_octet) in
    let scalar : IsScalar c = scalar_unit c (subst IsBmpUnit (sym is) f.first) in
    let before : List ℕ = flat_map unit_octets (chars text) in
    let spelled : chars new ≡ chars text ++ (c ∷ []) = ap chars n ∙ chars-append text (encode c) valid ∙ ap (λ cs. chars text ++ cs) (one_character c scalar) in
    let parts : flat_map unit_octets (chars text ++ (c ∷ [])) ≡ before ++ (c / 256 ∷ c % 256 ∷ []) = flat_map-append unit_octets (chars text) (c ∷ []) in
    let joined : (before ++ (c / 256 ∷ c % 256 ∷ [])) ++ after ≡ before ++ (c / 256 ∷ c % 256 ∷ after) = append_assoc before (c / 256 ∷ c % 256 ∷ []) after in
    let all : octets ≡ before ++ (high ∷ low ∷ after) = b.all in
    record { left = f.others; all = cc }

pub one_more_unit : (octets text new rest : List ℕ) (c : ℕ) → 2 ≤ length rest → IsUtf8 text → c ≡ unit_of (get_or rest 0 0) (get_or rest 1 0) → new ≡ text ++ encode c → IsTextBefore octets text rest → IsTextBefore octets new (take (length rest - 2) (drop 2 rest))
one_more_unit octets text new [] c some valid is n b = absurd (omega (arith, some))
one_more_unit octets text new (a ∷ []) c some valid is n b = absurd (omega (arith, some))
one_more_unit octets text new (high ∷ low ∷ after) c some valid is n b =
    let size : length (high ∷ low ∷ after) - 2 ≡ length after = omega arith in
    rw size (rw (take_all (length after) after (omega arith)) (more octets text new high low c after valid is n b))

-- no octet alone is left
pub all_text : (octets text rest : List ℕ) → length rest < 2 → IsTextBefore octets text rest → octets ≡ flat_map unit_octets (chars text)
all_text octets text [] short b = b.all ∙ append-nil (flat_map unit_octets (chars text))
all_text octets text (a ∷ []) short b = let e = is_even (a ∷ []) b.left in absurd (omega (arith, e))
all_text octets text (a ∷ d ∷ r) short b = absurd (omega (arith, short))
