-- Octets of UTF-16 that a loop makes of a text, unit by unit.
use Rattle.std.proofs.Common.{◌≡◌, ℕ, ◌+◌, ◌-◌, ◌*◌, ◌/◌, ◌%◌, ◌<◌, ◌≤◌, true, false, List, [], ◌∷◌, ◌++◌, length, Some, refl, sym, ap, ◌∙◌, inl, inr, ⊎_elim, arith}
use Rattle.std.specs.Prelude.{◌⊎◌}
use Rattle.std.specs.Char.{IsScalar, encode_utf8}
use Rattle.std.specs.Char.Escape.{encode_utf16}
use Rattle.std.specs.Char.Utf16.{utf16_chars, surrogate_pair_char, has_unpaired_surrogate}
use Rattle.std.specs.List.{flat_map}
use Rattle.std.specs.Str.{IsUtf8, encode_utf8_all, all_scalars}
use Rattle.std.proofs.Math.Utf8.{scalar_cases}
use Rattle.std.proofs.lemmas.Bool.{cases_lt}
use Rattle.std.proofs.lemmas.List.{append-nil, append_assoc, flat_map_more, nil_from_length}
use Rattle.std.proofs.lemmas.Str.{encodes-append, chars_from_encodes, scalars-chars, utf16_chars-nil, utf16_chars_lone, utf16_chars_pair}
use Rattle.std.proofs.str.Utf16.{IsPair, one_unit, two_units, lone_unit_char_low, lone_unit_char_high}
use Rattle.x509_pkcs12.specs.Utf16.{units_of}
use Rattle.text_calls.specs.Names.{IsUtf8OfUtf16}

-- the two octets of a unit, the high one first
abbrev pub unit_octets : ℕ → List ℕ
unit_octets unit = (unit / 256) ∷ (unit % 256) ∷ []

units_of-octets : (units : List ℕ) → units_of (flat_map unit_octets units) ≡ units
units_of-octets [] = refl
units_of-octets (u ∷ us) =
    let first : u / 256 * 256 + u % 256 ≡ u = omega arith in
    let others : units_of (flat_map unit_octets us) ≡ us = units_of-octets us in
    cc

even_octets : (units : List ℕ) → length (flat_map unit_octets units) % 2 ≡ 0
even_octets [] = refl
even_octets (u ∷ us) =
    let others : length (flat_map unit_octets us) % 2 ≡ 0 = even_octets us in
    omega arith

-- The units of a character spell this character, whatever comes after them: one unit, if it is below 2^16, or a pair.
lone_unit : (c : ℕ) (us : List ℕ) → IsScalar c → c < 0x1_0000 → utf16_chars (c ∷ us) ≡ Some c ∷ utf16_chars us
lone_unit c us is low = elim (scalar_cases c is) [
  | inl below ↦ utf16_chars_lone c us (λ pair. omega arith) ∙ ap (λ o. o ∷ utf16_chars us) (lone_unit_char_low c below)
  | inr above ↦ utf16_chars_lone c us (λ pair. omega arith) ∙ ap (λ o. o ∷ utf16_chars us) (lone_unit_char_high c above.0)
]

paired_units : (c high low : ℕ) (us : List ℕ) → 0x1_0000 ≤ c → c < 0x11_0000 → high ≡ 0xD800 + (c - 0x1_0000) / 0x400 → low ≡ 0xDC00 + (c - 0x1_0000) % 0x400
    → utf16_chars (high ∷ low ∷ us) ≡ Some c ∷ utf16_chars us
paired_units c high low us from below h l =
    let pair : IsPair high low = (omega arith, omega arith, omega arith, omega arith) in
    let same : surrogate_pair_char high low ≡ c = omega arith in
    utf16_chars_pair high low us pair ∙ ap (λ d. Some d ∷ utf16_chars us) same

one_character : (c : ℕ) (us : List ℕ) → IsScalar c → utf16_chars (encode_utf16 c ++ us) ≡ Some c ∷ utf16_chars us
one_character c us is = elim (cases_lt c 0x1_0000) [
  | inl low ↦ rw (one_unit c low) (lone_unit c us is low)
  | inr from ↦
      let below : c < 0x11_0000 = ⊎_elim (λ h. omega arith) (λ h. h.1) (scalar_cases c is) in
      rw (two_units c from) (paired_units c _ _ us from below refl refl)
]

each_paired : (cs : List ℕ) → all_scalars cs ≡ true → has_unpaired_surrogate (flat_map encode_utf16 cs) ≡ false
each_paired [] is = rw utf16_chars-nil
each_paired (c ∷ cs) is =
    let one : IsScalar c = grind arith in
    let others : all_scalars cs ≡ true = grind arith in
    rw (one_character c (flat_map encode_utf16 cs) one) (each_paired cs others)

-- units of a text, and what is still to come: the second unit of a pair, and the text after its character
pub record AreUnitsBefore (units pending rest text : List ℕ) : Type 0 where
  pub taken : List ℕ
  pub spelled : units ++ pending ≡ flat_map encode_utf16 taken
  pub left : encode_utf8_all taken ++ rest ≡ text

second_unit : (units text rest : List ℕ) (u : ℕ) (pending new_pending new_rest : List ℕ) → pending ≡ u ∷ [] → new_pending ≡ [] → new_rest ≡ rest
    → AreUnitsBefore units pending rest text → AreUnitsBefore (units ++ u ∷ []) new_pending new_rest text
second_unit units text rest u pending new_pending new_rest second none same b =
    record {
      taken = b.taken;
      spelled = rw none (append-nil (units ++ u ∷ []) ∙ ap (λ us. units ++ us) (sym second) ∙ b.spelled);
      left = rw same b.left;
    }

first_unit : (units text rest : List ℕ) (u c : ℕ) (pending new_pending new_rest : List ℕ) → pending ≡ [] → rest ≡ encode_utf8 c ++ new_rest → encode_utf16 c ≡ u ∷ new_pending
    → AreUnitsBefore units pending rest text → AreUnitsBefore (units ++ u ∷ []) new_pending new_rest text
first_unit units text rest u c pending new_pending new_rest none bytes new b =
    let so_far : units ≡ flat_map encode_utf16 b.taken = sym (append-nil units) ∙ ap (λ us. units ++ us) (sym none) ∙ b.spelled in
    let before : List ℕ = encode_utf8_all b.taken in
    record {
      taken = b.taken ++ c ∷ [];
      spelled = append_assoc units (u ∷ []) new_pending ∙ ap (λ us. units ++ us) (sym new) ∙ ap (λ us. us ++ encode_utf16 c) so_far ∙ flat_map_more encode_utf16 [] b.taken c;
      left = ap (λ bs. bs ++ new_rest) (encodes-append b.taken (c ∷ []) ∙ ap (λ bs. before ++ bs) (append-nil (encode_utf8 c)))
          ∙ append_assoc before (encode_utf8 c) new_rest ∙ ap (λ bs. before ++ bs) (sym bytes) ∙ b.left;
    }

-- what a turn of the loop takes: the second unit of a pair, or the first unit of a character
abbrev TakesUnit : List ℕ → List ℕ → ℕ → List ℕ → List ℕ → Type 0
TakesUnit pending rest u new_pending new_rest = ((pending ≡ u ∷ []) × (new_pending ≡ []) × (new_rest ≡ rest))
    ⊎ ((pending ≡ []) × ((c : ℕ) × (rest ≡ encode_utf8 c ++ new_rest) × (encode_utf16 c ≡ u ∷ new_pending)))

pub one_more_unit : (units text : List ℕ) (u : ℕ) (pending rest new_pending new_rest : List ℕ) → TakesUnit pending rest u new_pending new_rest
    → AreUnitsBefore units pending rest text → AreUnitsBefore (units ++ u ∷ []) new_pending new_rest text
one_more_unit units text u pending rest new_pending new_rest (inl s) b = second_unit units text rest u pending new_pending new_rest s.0 s.1 s.2 b
one_more_unit units text u pending rest new_pending new_rest (inr f) b = first_unit units text rest u f.1.0 pending new_pending new_rest f.0 f.1.1 f.1.2 b

pub octets_written : (octets new units two : List ℕ) (u : ℕ) → octets ≡ flat_map unit_octets units → two ≡ unit_octets u → new ≡ octets ++ two
    → new ≡ flat_map unit_octets (units ++ u ∷ [])
octets_written octets new units two u before is added =
    added ∙ ap (λ bs. octets ++ bs) is ∙ ap (λ bs. bs ++ unit_octets u) before ∙ flat_map_more unit_octets [] units u

-- the octets after the loop
pub all_units : (octets units pending rest text : List ℕ) → IsUtf8 text → pending ≡ [] → length rest ≡ 0 → octets ≡ flat_map unit_octets units
    → AreUnitsBefore units pending rest text → IsUtf8OfUtf16 octets text
all_units octets units pending rest text utf8 none end written b =
    let spelled : units ≡ flat_map encode_utf16 b.taken = sym (append-nil units) ∙ ap (λ us. units ++ us) (sym none) ∙ b.spelled in
    let bytes : encode_utf8_all b.taken ≡ text = sym (append-nil _) ∙ ap (λ bs. encode_utf8_all b.taken ++ bs) (sym (nil_from_length rest end)) ∙ b.left in
    let scalars : all_scalars b.taken ≡ true = rw (chars_from_encodes b.taken text utf8 bytes) (scalars-chars text utf8) in
    let same : units_of octets ≡ flat_map encode_utf16 b.taken = ap units_of written ∙ units_of-octets units ∙ spelled in
    record {
      is_utf16 = (rw written (even_octets units), rw same (each_paired b.taken scalars));
      is_utf8 = utf8;
      same = (b.taken, same, sym bytes);
    }
