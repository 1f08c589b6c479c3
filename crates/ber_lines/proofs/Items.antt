-- The element at the front of some bytes.
use Rattle.std.proofs.Common.{◌≡◌, ◌≢◌, ◌↔◌, inl, inr, IsTrue, Bool, ℕ, ◌+◌, ◌-◌, ◌<◌, ◌≤◌, List, [], ◌∷◌, ◌++◌, Option, Some, length, take, drop, get_or, sym, ap, subst, ◌∙◌, arith, append_assoc, append-nil, length-append, length-drop}
use Rattle.std.proofs.Math.Seq.{drop-append_seam}
use Rattle.std.proofs.lemmas.List.{take-append-drop, take_rest, drop-drop, length-take-le}
use Rattle.asn1_core_element.specs.Element.{head, element, IsTagByte, IsElement, IsFront, HasNoFront}
use Rattle.asn1_core_element.specs.laws.ElementLaws.{element_cut, element_long}
use Rattle.ber_lines.specs.Lines.{Begins, BeginsLonger, LeadsInto, OpensBer, OpensOctets}
use Rattle.ber_der.specs.Lengths.{BeginsWithLength}
use Rattle.ber_lines.specs.declared.lines.Opening.{Opening}

module _ (bytes : List ℕ) (tag n size : ℕ) (f : IsFront bytes tag n size) where
  contents_len : length (take n (drop size bytes)) ≡ n
  contents_len = length-take-le n (drop size bytes) (omega (arith, length-drop size bytes, f.fits))

  parts : bytes ≡ head tag n ++ take n (drop size bytes) ++ drop (size + n) bytes
  parts =
      f.header ∙ ap (λ x. head tag n ++ x) (sym (take-append-drop n (drop size bytes)) ∙ ap (λ x. take n (drop size bytes) ++ x) (drop-drop n size bytes)) ∙ sym (append_assoc (head tag n) (take n (drop size bytes)) (drop (size + n) bytes))

  begins_here : Begins bytes tag size (take n (drop size bytes))
  begins_here = record { is_tag = f.is_tag; is = rw contents_len parts; header = rw contents_len f.size }

  pub begins : Begins bytes tag size (take (size + n - size) (drop size bytes))
  begins =
      let e : size + n - size ≡ n = omega arith in rw e begins_here

  pub some_header : 0 < size
  some_header =
      let c = take n (drop size bytes) in
      omega (arith, element_long tag c, length-append (head tag (length c)) c, begins_here.header)

  pub there : ¬ HasNoFront bytes
  there none = none tag (take n (drop size bytes)) _ f.is_tag begins_here.is

  -- where they are one whole element, it is this one
  whole : IsElement (λ _. Unit {0}) bytes → size + n ≡ length bytes
  whole e =
      let c = take n (drop size bytes) in
      let cut = element_cut tag e.tag c e.contents (drop (size + length c) bytes) [] (sym begins_here.is ∙ e.is ∙ sym (append-nil (element e.tag e.contents))) in
      let none = ap length cut.2 in
      omega (arith, none, length-drop (size + length c) bytes, contents_len, f.fits)

  -- contents of an octet string that begin with an element, and aren't one that is opened
  pub opens_there : (o : Opening) (start : ℕ) (leads : Bool) → (IsTrue o.opens_all → size + n ≢ length bytes) → IsTrue leads ↔ LeadsInto o bytes start → IsTrue leads ↔ OpensOctets o bytes start
  opens_there o start leads differs h =
      let back : OpensOctets o bytes start → IsTrue leads = λ d. elim d [ inl w ↦ absurd (differs w.0 (whole w.1)) | inr e ↦ elim e [ inl p ↦ h.1 p.0 | inr b ↦ absurd (there b.0) ] ] in
      (λ l. inr (inl (h.0 l, there)), back)

-- contents that no element of DER begins
pub opens_nowhere : (o : Opening) (bytes : List ℕ) (start : ℕ) (opens : Bool) → HasNoFront bytes → IsTrue opens ↔ OpensBer o bytes start → IsTrue opens ↔ OpensOctets o bytes start
opens_nowhere o bytes start opens none h =
    let back : OpensOctets o bytes start → IsTrue opens = λ d. elim d [ inl w ↦ absurd (none w.1.tag w.1.contents [] w.1.is_tag (w.1.is ∙ sym (append-nil _))) | inr e ↦ elim e [ inl p ↦ absurd (p.1 none) | inr b ↦ h.1 b.1 ] ] in
    (λ l. inr (inr (none, h.0 l)), back)

-- the first byte and the others
pub uncons : (b : List ℕ) → 1 ≤ length b → b ≡ get_or b 0 0 ∷ take (length b - 1) (drop 1 b)
uncons [] l = absurd (omega (arith, l))
uncons (x ∷ b) l = ap (λ t. x ∷ t) (sym (take_rest (x ∷ b) 1))

module _ (bytes rest : List ℕ) (n : ℕ) where
  longer_here : 1 ≤ length bytes → IsTagByte (get_or bytes 0 0) → BeginsWithLength (take (length bytes - 1) (drop 1 bytes)) (Some n) rest → HasNoFront bytes → BeginsLonger bytes (get_or bytes 0 0) (length bytes - length rest) (take n rest)
  longer_here some is_tag b none =
      let tag = get_or bytes 0 0 in
      let is : bytes ≡ tag ∷ take (length bytes - 1) (drop 1 bytes) = uncons bytes some in
      let size : length (take n rest) ≡ n = length-take-le n rest b.fits in
      let whole : bytes ≡ tag ∷ b.length_octets ++ rest = is ∙ ap (λ x. tag ∷ x) b.split in
      let header : length bytes - length rest ≡ 1 + length b.length_octets = (let l = ap length whole in omega (arith, l, length-append b.length_octets rest)) in
      let seam : length bytes - length rest ≡ length (tag ∷ b.length_octets) = omega (arith, header) in
      let past : drop (length bytes - length rest) bytes ≡ rest = rw (seam, whole) (drop-append_seam (tag ∷ b.length_octets) rest) in
      let left : drop (length bytes - length rest + n) bytes ≡ drop n rest = sym (drop-drop n (length bytes - length rest) bytes) ∙ ap (drop n) past in
      record {
        is_tag = is_tag;
        octets = b.length_octets;
        length_is = rw size b.length_is;
        is = whole ∙ ap (λ x. tag ∷ b.length_octets ++ x) (sym (take-append-drop n rest) ∙ ap (λ x. take n rest ++ x) (sym left ∙ ap (λ m. drop (length bytes - length rest + m) bytes) (sym size))) ∙ sym (append_assoc (tag ∷ b.length_octets) (take n rest) (drop (length bytes - length rest + length (take n rest)) bytes));
        header = header;
        longer = none;
      }

  -- a length in the definite form after a tag, that of no element of DER
  pub begins_longer : (o : Option ℕ) → 1 ≤ length bytes → IsTagByte (get_or bytes 0 0) → BeginsWithLength (take (length bytes - 1) (drop 1 bytes)) o rest → o ≡ Some n → HasNoFront bytes → BeginsLonger bytes (get_or bytes 0 0) (length bytes - length rest) (take n rest)
  begins_longer o some is_tag b is none = longer_here some is_tag (subst (λ p. BeginsWithLength (take (length bytes - 1) (drop 1 bytes)) p rest) is b) none
