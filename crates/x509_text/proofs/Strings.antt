-- Values that are strings.
use Rattle.std.proofs.Common.{◌≡◌, ℕ, ◌+◌, List, [], ◌++◌, length, take, drop, ◌-◌, Option, Some, None, Result, Ok, Err, MatchOption, MatchResult, ⊎_elim, inr, refl, sym, ap, subst, ◌∙◌, arith}
use Rattle.std.proofs.lemmas.List.{append-nil, length-append, length-drop, take_all}
use Rattle.std.proofs.lemmas.Str.{chars_from_encodes, encodes-IsAscii, IsUtf8-from_ascii}
use Rattle.std.proofs.lemmas.Str.Ascii.{IsAscii-from_all}
use Rattle.std.specs.Prelude.{String}
use Rattle.std.specs.Str.{IsUtf8, IsAscii, chars}
use Rattle.asn1_core_element.specs.declared.error.Error.{Error}
use Rattle.asn1_core_element.specs.declared.error.Error.TheVariants.{Memory}
use Rattle.asn1_core_element.specs.Element.{head, element, IsTagByte, IsFront, HasNoFront}
use Rattle.asn1_core_element.specs.laws.ElementLaws.{head_cut}
use Rattle.asn1_leaves_strings.specs.Ia5.{IsIa5}
use Rattle.x509_text.specs.Characters.{characters, Appends}
use Rattle.x509_text.specs.Values.{HasCharacters, IsString, IsValueText, hexadecimal}

ascii_is : (bs : List ℕ) → IsIa5 bs → IsAscii bs
ascii_is bs each = IsAscii-from_all bs each

ascii_chars : (bs : List ℕ) → IsIa5 bs → chars bs ≡ bs
ascii_chars bs each =
    let a : IsAscii bs = ascii_is bs each in
    sym (chars_from_encodes bs bs (IsUtf8-from_ascii bs a) (encodes-IsAscii bs a))

-- octets in ASCII are their characters
pub ascii_read : {Z : Type 0} (bs : List ℕ) (r : Result (Option (String Z)) Error) → IsIa5 bs → MatchResult r (λ o. MatchOption o (¬ (IsUtf8 bs)) (λ t. IsUtf8 bs × (characters t ≡ chars bs))) (λ e. e ≡ Memory) → MatchResult r (λ o. MatchOption o (¬ (IsIa5 bs)) (λ t. IsIa5 bs × (characters t ≡ bs))) (λ e. e ≡ Memory)
ascii_read bs (Ok (Some t)) each h = (each, h.1 ∙ ascii_chars bs each)
ascii_read bs (Ok None) each h = absurd (h (IsUtf8-from_ascii bs (ascii_is bs each)))
ascii_read bs (Err e) each h = h

-- the tags of strings have one byte
one_byte : (tag : ℕ) (contents cs : List ℕ) → HasCharacters tag contents cs → IsTagByte tag
one_byte tag contents cs h =
    ⊎_elim (λ u. omega (arith, u.0)) (λ r. ⊎_elim (λ a. ⊎_elim (λ p. omega (arith, p)) (λ q. ⊎_elim (λ t. omega (arith, t)) (λ i. omega (arith, i)) q) a.0) (λ b. omega (arith, b.0)) r) h

-- no element, no string
pub no_string : (bs : List ℕ) → HasNoFront bs → (cs : List ℕ) → IsString bs cs → ⊥
no_string bs none cs s =
    none s.tag s.contents [] (one_byte s.tag s.contents cs s.spelled) (s.is ∙ sym (append-nil (element s.tag s.contents)))

-- the tag and the contents of the one element
module _ (bs : List ℕ) (tag n size : ℕ) (f : IsFront bs tag n size) where
  parts_are : (cs : List ℕ) (s : IsString bs cs) → (tag ≡ s.tag) × (n ≡ length s.contents) × (drop size bs ≡ s.contents)
  parts_are cs s = head_cut tag s.tag n (length s.contents) (drop size bs) s.contents (sym f.header ∙ s.is)

  pub not_whole : (size + n ≡ length bs → ⊥) → (cs : List ℕ) → IsString bs cs → ⊥
  not_whole other cs s =
      let p = parts_are cs s in
      let len : length bs ≡ length (head tag n) + length (drop size bs) = ap length f.header ∙ length-append (head tag n) (drop size bs) in
      other (omega (arith, f.size, len, p.1, ap length p.2))

  whole_is : size + n ≡ length bs → bs ≡ element tag (drop size bs)
  whole_is whole =
      let len : length bs ≡ length (head tag n) + length (drop size bs) = ap length f.header ∙ length-append (head tag n) (drop size bs) in
      let same : n ≡ length (drop size bs) = omega (arith, f.size, len, whole) in
      f.header ∙ ap (λ m. head tag m ++ drop size bs) same

  same : take (length bs - size) (drop size bs) ≡ drop size bs
  same = take_all (length bs - size) (drop size bs) (omega (arith, length-drop size bs))

  pub string_read : {Z : Type 0} (r : Result (Option (String Z)) Error) → size + n ≡ length bs → MatchResult r (λ o. MatchOption o ((cs : List ℕ) → ¬ (HasCharacters tag (take (length bs - size) (drop size bs)) cs)) (λ t. HasCharacters tag (take (length bs - size) (drop size bs)) (characters t))) (λ e. e ≡ Memory) → MatchResult r (λ o. MatchOption o ((cs : List ℕ) → ¬ (IsString bs cs)) (λ t. IsString bs (characters t))) (λ e. e ≡ Memory)
  string_read (Ok (Some t)) whole h = record { tag = tag; contents = drop size bs; is = whole_is whole; spelled = subst (λ c. HasCharacters tag c (characters t)) same h }
  string_read (Ok None) whole h =
      λ cs s. let p = parts_are cs s in h cs (subst (λ c. HasCharacters tag c cs) (sym (same ∙ p.2)) (subst (λ t. HasCharacters t s.contents cs) (sym p.0) s.spelled))
  string_read (Err e) whole h = h

octets_shown : (bs : List ℕ) → ((cs : List ℕ) → IsString bs cs → ⊥) → IsValueText bs (hexadecimal bs)
octets_shown bs none = inr (none, refl)

pub value_shown : {Z : Type 0} (old new : String Z) (bs : List ℕ) (r : Result (Unit {0}) Error) → ((cs : List ℕ) → IsString bs cs → ⊥) → MatchResult r (λ _. characters new ≡ characters old ++ hexadecimal bs) (λ e. e ≡ Memory) → MatchResult r (λ _. Appends old new (IsValueText bs)) (λ e. e ≡ Memory)
value_shown old new bs (Ok u) none h = (hexadecimal bs, octets_shown bs none, h)
value_shown old new bs (Err e) none h = h
