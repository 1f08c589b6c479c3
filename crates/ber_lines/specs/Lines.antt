-- What lines show of an input.
use Rattle.std.specs.Prelude.{◌≡◌, ◌≢◌, ◌⊎◌, ◌↔◌, ℕ, zero, suc, ◌+◌, ◌*◌, ◌-◌, ◌/◌, ◌%◌, ◌<◌, ◌≤◌, List, [], ◌∷◌, ◌++◌, length, drop, take, slice_get, slice_range, Option, Some, None, unwrap_or, if◌then◌else◌, Bool, true, false, IsTrue}
use Rattle.std.specs.List.{All}
use Rattle.std.specs.Option.{IsSomeAnd}
use Rattle.asn1_core_element.specs.Element.{head, element, IsTagByte, IsElement, HasNoFront}
use Rattle.ber_der.specs.Ber.{IsLength, IsDefinite}
use Rattle.ber_lines.specs.declared.lines.Front.{Front}
use Rattle.ber_lines.specs.declared.lines.Front.TheVariants.{Nothing, Element, Longer, Indefinite, EndOfContents, MissingEnd}
use Rattle.ber_lines.specs.declared.lines.Line.{Line}
use Rattle.ber_lines.specs.declared.walk.Open.{Open}
use Rattle.ber_lines.specs.declared.lines.Opening.{Opening}

-- the bytes begin with an element of that tag and those contents, whose header takes so many bytes
pub record Begins (bytes : List ℕ) (tag header_len : ℕ) (contents : List ℕ) : Type 0 where
  pub is_tag : IsTagByte tag
  pub is : bytes ≡ element tag contents ++ drop (header_len + length contents) bytes
  pub header : length (head tag (length contents)) ≡ header_len

-- no element begins the bytes, and they are shown as they are
pub record BeginsNone (bytes : List ℕ) (header_len : ℕ) (contents : List ℕ) : Type 0 where
  pub none : HasNoFront bytes
  pub whole : contents ≡ bytes
  pub header : header_len ≡ 0

-- The bytes begin with an element of that tag and these contents, whose length is in more octets than DER takes. Of DER none
-- begins them.
pub record BeginsLonger (bytes : List ℕ) (tag header_len : ℕ) (contents : List ℕ) : Type 0 where
  pub is_tag : IsTagByte tag
  pub octets : List ℕ
  pub length_is : IsLength octets (length contents)
  pub is : bytes ≡ tag ∷ octets ++ contents ++ drop (header_len + length contents) bytes
  pub header : header_len ≡ 1 + length octets
  pub longer : HasNoFront bytes

-- the bytes begin with an element of that tag, whose length is indefinite, and its contents are in these
pub record BeginsIndefinite (bytes : List ℕ) (tag header_len : ℕ) (contents : List ℕ) : Type 0 where
  pub is_tag : IsTagByte tag
  pub constructed : tag / 32 % 2 ≡ 1
  pub is : bytes ≡ tag ∷ 128 ∷ contents
  pub header : header_len ≡ 2

-- no element of BER begins the bytes, whose length is definite or indefinite
pub record HasNoBer (bytes : List ℕ) : Type 0 where
  pub none : HasNoFront bytes
  pub definite : (tag : ℕ) (encoding contents rest : List ℕ) → IsTagByte tag → IsDefinite encoding tag contents → bytes ≡ encoding ++ rest → ⊥
  pub indefinite : (tag : ℕ) (rest : List ℕ) → IsTagByte tag → tag / 32 % 2 ≡ 1 → bytes ≡ tag ∷ 128 ∷ rest → ⊥

-- no element of BER begins the bytes, and they are shown as they are
pub record BeginsNoBer (bytes : List ℕ) (header_len : ℕ) (contents : List ℕ) : Type 0 where
  pub none : HasNoBer bytes
  pub whole : contents ≡ bytes
  pub header : header_len ≡ 0

-- the end of contents begins the bytes (X.690, 8.1.5)
abbrev pub BeginsWithEnd : List ℕ → Type 0
BeginsWithEnd bytes = bytes ≡ 0 ∷ 0 ∷ drop 2 bytes

-- what begins bytes that no element of DER does
abbrev pub IsBerItem : List ℕ → Front → ℕ → List ℕ → Type 0
IsBerItem bytes Nothing header_len contents = BeginsNoBer bytes header_len contents
IsBerItem bytes (Element tag) header_len contents = ⊥
IsBerItem bytes (Longer tag) header_len contents = BeginsLonger bytes tag header_len contents
IsBerItem bytes (Indefinite tag) header_len contents = BeginsIndefinite bytes tag header_len contents
IsBerItem bytes EndOfContents header_len contents = ⊥
IsBerItem bytes MissingEnd header_len contents = ⊥

-- what begins bytes in contents that don't end here
abbrev pub IsElementItem : Bool → List ℕ → Front → ℕ → List ℕ → Type 0
IsElementItem reads_ber bytes Nothing header_len contents =
    BeginsNone bytes header_len contents × (IsTrue reads_ber → HasNoBer bytes)
IsElementItem reads_ber bytes (Element tag) header_len contents = Begins bytes tag header_len contents
IsElementItem reads_ber bytes (Longer tag) header_len contents = IsTrue reads_ber × BeginsLonger bytes tag header_len contents
IsElementItem reads_ber bytes (Indefinite tag) header_len contents = IsTrue reads_ber × BeginsIndefinite bytes tag header_len contents
IsElementItem reads_ber bytes EndOfContents header_len contents = ⊥
IsElementItem reads_ber bytes MissingEnd header_len contents = ⊥

-- the end of contents begins the bytes, and is all that is shown
pub record ShowsEnd (bytes : List ℕ) (header_len : ℕ) (contents : List ℕ) : Type 0 where
  pub is : BeginsWithEnd bytes
  pub header : header_len ≡ 2
  pub none : contents ≡ []

-- no bytes are left, so the end of contents is missing, and nothing is shown
pub record ShowsNoEnd (bytes : List ℕ) (header_len : ℕ) (contents : List ℕ) : Type 0 where
  pub over : bytes ≡ []
  pub header : header_len ≡ 0
  pub none : contents ≡ []

-- What begins bytes in contents: if these may end here, their end, and that nowhere else; where no bytes are left then, that
-- their end is missing; and elsewhere an element.
abbrev pub IsItem : Bool → Bool → List ℕ → Front → ℕ → List ℕ → Type 0
IsItem reads_ber may_end bytes front header_len contents =
    ((front ≡ EndOfContents) × IsTrue may_end × ShowsEnd bytes header_len contents) ⊎ (((front ≡ MissingEnd) × IsTrue may_end × ShowsNoEnd bytes header_len contents) ⊎ (¬ (IsTrue may_end × BeginsWithEnd bytes) × ¬ (IsTrue may_end × (bytes ≡ [])) × IsElementItem reads_ber bytes front header_len contents))

abbrev pub tag_of : Front → Option ℕ
tag_of Nothing = None
tag_of (Element tag) = Some tag
tag_of (Longer tag) = Some tag
tag_of (Indefinite tag) = Some tag
tag_of EndOfContents = None
tag_of MissingEnd = None

abbrev pub is_indefinite : Front → Bool
is_indefinite Nothing = false
is_indefinite (Element tag) = false
is_indefinite (Longer tag) = false
is_indefinite (Indefinite tag) = true
is_indefinite EndOfContents = false
is_indefinite MissingEnd = false

abbrev pub is_end : Front → Bool
is_end Nothing = false
is_end (Element tag) = false
is_end (Longer tag) = false
is_end (Indefinite tag) = false
is_end EndOfContents = true
is_end MissingEnd = false

abbrev pub is_missing_end : Front → Bool
is_missing_end Nothing = false
is_missing_end (Element tag) = false
is_missing_end (Longer tag) = false
is_missing_end (Indefinite tag) = false
is_missing_end EndOfContents = false
is_missing_end MissingEnd = true

-- it is the last of the contents around: their end, or that this is missing
abbrev pub is_last : Front → Bool
is_last Nothing = false
is_last (Element tag) = false
is_last (Longer tag) = false
is_last (Indefinite tag) = false
is_last EndOfContents = true
is_last MissingEnd = true

-- The bytes are what is left from somewhere inside n contents of indefinite length, one in the other, up to the end of the
-- outermost, with which they end: elements, and the ends of these contents. What an element of definite length holds may be
-- any octets.
pub data EndsAll : ℕ → List ℕ → Type 0 where
  ends_over : (bytes : List ℕ) → bytes ≡ [] → EndsAll zero bytes
  ends_ended : (n : ℕ) (bytes rest : List ℕ) → bytes ≡ 0 ∷ 0 ∷ rest → EndsAll n rest → EndsAll (suc n) bytes
  ends_held : (n tag : ℕ) (encoding contents bytes rest : List ℕ) → IsTagByte tag → IsDefinite encoding tag contents → bytes ≡ encoding ++ rest → ¬ BeginsWithEnd bytes → EndsAll (suc n) rest → EndsAll (suc n) bytes
  ends_opened : (n tag : ℕ) (bytes rest : List ℕ) → IsTagByte tag → tag / 32 % 2 ≡ 1 → bytes ≡ tag ∷ 128 ∷ rest → EndsAll (suc (suc n)) rest → EndsAll (suc n) bytes

-- the bytes are one whole element whose length is in more octets than DER takes
pub record IsWholeLonger (bytes : List ℕ) : Type 0 where
  pub tag : ℕ
  pub header_len : ℕ
  pub contents : List ℕ
  pub begins : BeginsLonger bytes tag header_len contents
  pub whole : header_len + length contents ≡ length bytes

-- the bytes are one whole element of indefinite length, which its end of contents ends
pub record IsWholeIndefinite (bytes : List ℕ) : Type 0 where
  pub none : HasNoFront bytes
  pub tag : ℕ
  pub contents : List ℕ
  pub begins : BeginsIndefinite bytes tag 2 contents
  pub ends : EndsAll 1 contents

-- the bytes are one whole element of BER, and no element of DER begins them
abbrev pub IsWholeBer : List ℕ → Type 0
IsWholeBer bytes = IsWholeLonger bytes ⊎ IsWholeIndefinite bytes

-- the place is that of an octet of contents that begin at start
abbrev pub LeadsInto : Opening → List ℕ → ℕ → Type 0
LeadsInto opening contents start = IsSomeAnd opening.place (λ p. (start ≤ p) × (p < start + length contents))

-- contents that no element of DER begins have lines of their own, as those of an octet string below
abbrev pub OpensBer : Opening → List ℕ → ℕ → Type 0
OpensBer opening contents start =
    IsTrue opening.reads_ber × ((IsTrue opening.opens_all × IsWholeBer contents) ⊎ (LeadsInto opening contents start × ¬ HasNoBer contents))

-- the contents of an octet string, which begin at start, have lines of their own: where they are one whole element, if
-- each such is opened, and where they begin with an element, on the way to an octet of them
abbrev pub OpensOctets : Opening → List ℕ → ℕ → Type 0
OpensOctets opening contents start =
    (IsTrue opening.opens_all × IsElement (λ _. Unit {0}) contents) ⊎ ((LeadsInto opening contents start × ¬ HasNoFront contents) ⊎ (HasNoFront contents × OpensBer opening contents start))

-- contents under a tag that begin at start have lines of their own: of an octet string as above, and of a constructed tag,
-- if there are any
abbrev pub OpensTagged : Opening → ℕ → List ℕ → ℕ → Type 0
OpensTagged opening tag contents start = ((tag ≡ 4) × OpensOctets opening contents start) ⊎ ((tag / 32 % 2 ≡ 1) × (contents ≢ []))

abbrev pub Opens : Opening → Front → List ℕ → ℕ → Type 0
Opens opening Nothing contents start = ⊥
Opens opening (Element tag) contents start = OpensTagged opening tag contents start
Opens opening (Longer tag) contents start = OpensTagged opening tag contents start
Opens opening (Indefinite tag) contents start = Unit {0}
Opens opening EndOfContents contents start = ⊥
Opens opening MissingEnd contents start = ⊥

-- the innermost of the contents that are open, the outermost of which come first, or the whole input
abbrev pub innermost : List ℕ → List Open → Open
innermost input opened = unwrap_or (slice_get opened (length opened - 1)) (record { end = length input; is_indefinite = false })

-- These contents are open but for some last ones. None of those ends after the place, nor has an indefinite length, which
-- only a line ends.
pub record LeavesEnded (opened : List Open) (at : ℕ) (left : List Open) : Type 0 where
  pub ended : List Open
  pub split : opened ≡ left ++ ended
  pub none_later : All (λ o. o.end ≤ at) ended
  pub definite : All (λ o. o.is_indefinite ≡ false) ended

-- no line is left: the place is the end of the input, and no contents that are open lack their end
pub record IsOver (input : List ℕ) (opened : List Open) (at : ℕ) : Type 0 where
  pub at_end : at ≡ length input
  pub none_lacks : All (λ o. o.is_indefinite ≡ false) opened

-- the contents that are open after a line: its own, if they have lines, and after the last line of contents not these
abbrev pub IsOpenedAfter : List Open → Line → ℕ → List Open → Type 0
IsOpenedAfter around line end next =
    next ≡ (if is_last line.front then take (length around - 1) around else if line.is_open then around ++ (record { end = end; is_indefinite = is_indefinite line.front }) ∷ [] else around)

-- The line begins at a place, in the contents that are open there. What it shows is the front of the bytes from there to
-- where the innermost of them end. If their length is indefinite, they may end earlier, or their end is missing.
pub record Shows (input : List ℕ) (opening : Opening) (around : List Open) (at : ℕ) (line : Line) : Type 0 where
  pub offset : line.offset ≡ at
  pub depth : line.depth ≡ length around
  pub item : IsItem opening.reads_ber (innermost input around).is_indefinite (slice_range input at (innermost input around).end) line.front line.header_len line.contents.now
  pub opens : IsTrue line.is_open ↔ Opens opening line.front line.contents.now (at + line.header_len)
  pub some : is_missing_end line.front ≡ false → 0 < line.header_len + (if line.is_open then 0 else length line.contents.now)
  pub fits : line.header_len + length line.contents.now ≤ (innermost input around).end - at

-- A line, and where the next one begins: where what it shows ends. Its own contents are open then, if they have lines.
pub record IsLine (input : List ℕ) (opening : Opening) (opened : List Open) (at : ℕ) (opened_next : List Open) (next : ℕ) (line : Line) : Type 0 where
  pub around : List Open
  pub leaves : LeavesEnded opened at around
  pub shows : Shows input opening around at line
  pub next_is : next ≡ at + line.header_len + (if line.is_open then 0 else length line.contents.now)
  pub opened_are : IsOpenedAfter around line (at + line.header_len + length line.contents.now) opened_next

-- what is left to be shown: each line takes of it, an element by its octets and a missing end by what was open
abbrev pub left_over : List ℕ → List Open → ℕ → ℕ
left_over input opened at = 2 * (length input - at) + length opened
