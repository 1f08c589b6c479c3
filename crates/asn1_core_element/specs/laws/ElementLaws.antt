-- No element is a proper beginning of another.
use Rattle.std.proofs.Common.{◌≡◌, ℕ, ◌+◌, ◌<◌, ◌≤◌, List, [], ◌∷◌, ◌++◌, length, refl, sym, ap, ◌∙◌, arith, ⊎_elim, length-append, append_assoc}
use Rattle.std.proofs.lemmas.Bool.{cases_lt, lt-ltb, le-ltb}
use Rattle.std.specs.Int.Digits.{digits_of}
use Rattle.std.proofs.lemmas.Int.Digits.{same_from_digits_of}
use Rattle.asn1_core_element.specs.Element.{length_octets, head, element, retag, IsElement}

-- two equal lists whose first parts are as long have the same parts
pub same_parts : (a b x y : List ℕ) → length a ≡ length b → a ++ x ≡ b ++ y → (a ≡ b) × (x ≡ y)
same_parts [] [] x y l e = (refl, e)
same_parts [] (c ∷ b) x y l e = absurd (omega (arith, l))
same_parts (c ∷ a) [] x y l e = absurd (omega (arith, l))
same_parts (c ∷ a) (d ∷ b) x y l e =
    let t : a ++ x ≡ b ++ y = cc in
    let h : c ≡ d = cc in
    let k : length a ≡ length b = omega (arith, l) in
    let r = same_parts a b x y k t in
    (let p : a ≡ b = r.0 in cc, r.1)

pub octets_short : (n : ℕ) → n < 128 → length_octets n ≡ n ∷ []
unfolding length_octets
octets_short n h = rw (lt-ltb n 128 h) refl

pub octets_long : (n : ℕ) → 128 ≤ n → length_octets n ≡ (128 + length (digits_of 256 n)) ∷ digits_of 256 n
unfolding length_octets
octets_long n h = rw (le-ltb n 128 h) refl

octets_cut_long : (m n : ℕ) (x y : List ℕ) → (128 + length (digits_of 256 m)) ∷ digits_of 256 m ++ x ≡ (128 + length (digits_of 256 n)) ∷ digits_of 256 n ++ y → (m ≡ n) × (x ≡ y)
octets_cut_long m n x y e =
    let l : 128 + length (digits_of 256 m) ≡ 128 + length (digits_of 256 n) = cc in
    let t : digits_of 256 m ++ x ≡ digits_of 256 n ++ y = cc in
    let k : length (digits_of 256 m) ≡ length (digits_of 256 n) = omega (arith, l) in
    let r = same_parts (digits_of 256 m) (digits_of 256 n) x y k t in
    (same_from_digits_of 256 m n (omega arith) r.0, r.1)

octets_cut_mixed : (m n : ℕ) (x y : List ℕ) → m < 128 → 128 ≤ n → length_octets m ++ x ≡ length_octets n ++ y → ⊥
octets_cut_mixed m n x y h k e =
    let f = rw (octets_short m h, octets_long n k) at e in
    let g : m ≡ 128 + length (digits_of 256 n) = cc in
    omega arith

octets_cut_short : (m n : ℕ) (x y : List ℕ) → m < 128 → n < 128 → length_octets m ++ x ≡ length_octets n ++ y → (m ≡ n) × (x ≡ y)
octets_cut_short m n x y h k e =
    let f = rw (octets_short m h, octets_short n k) at e in
    (cc, cc)

-- the octets of one length begin those of no other
pub octets_cut : (m n : ℕ) (x y : List ℕ) → length_octets m ++ x ≡ length_octets n ++ y → (m ≡ n) × (x ≡ y)
octets_cut m n x y e =
    ⊎_elim
    (λ (h : m < 128). ⊎_elim (λ (k : n < 128). octets_cut_short m n x y h k e) (λ (k : 128 ≤ n). absurd (octets_cut_mixed m n x y h k e)) (cases_lt n 128))
    (λ (h : 128 ≤ m). ⊎_elim (λ (k : n < 128). absurd (octets_cut_mixed n m y x k h (sym e))) (λ (k : 128 ≤ n). octets_cut_long m n x y (rw (octets_long m h, octets_long n k) at e)) (cases_lt n 128))
    (cases_lt m 128)

pub head_cut : (t u m n : ℕ) (x y : List ℕ) → head t m ++ x ≡ head u n ++ y → (t ≡ u) × (m ≡ n) × (x ≡ y)
unfolding head
head_cut t u m n x y e =
    let h : t ≡ u = cc in
    let k : length_octets m ++ x ≡ length_octets n ++ y = cc in
    let r = octets_cut m n x y k in
    (h, r.0, r.1)

-- bytes begin with at most one element: the tags, the contents and what follows are the same
pub element_cut : (t u : ℕ) (c d x y : List ℕ) → element t c ++ x ≡ element u d ++ y → (t ≡ u) × (c ≡ d) × (x ≡ y)
element_cut t u c d x y e =
    let f = rw (append_assoc, append_assoc) at e in
    let r = head_cut t u (length c) (length d) (c ++ x) (d ++ y) f in
    let s = same_parts c d x y r.1 r.2 in
    (r.0, s.0, s.1)

pub element_same : (t u : ℕ) (c d : List ℕ) → element t c ≡ element u d → (t ≡ u) × (c ≡ d)
element_same t u c d e =
    let r = element_cut t u c d [] [] (ap (λ b. b ++ []) e) in
    (r.0, r.1)

-- no element is a proper beginning of another
pub elements_cut : (S T : ℕ → Type 0) (a b x y : List ℕ) → IsElement S a → IsElement T b → a ++ x ≡ b ++ y → (a ≡ b) × (x ≡ y)
elements_cut S T a b x y p q e =
    let r = element_cut p.tag q.tag p.contents q.contents x y (ap (λ l. l ++ x) (sym p.is) ∙ e ∙ ap (λ l. l ++ y) q.is) in
    (p.is ∙ ap (λ t. element t p.contents) r.0 ∙ ap (λ c. element q.tag c) r.1 ∙ sym q.is, r.2)

length_octets_pos : (n : ℕ) → 1 ≤ length (length_octets n)
unfolding length_octets
length_octets_pos n =
    ⊎_elim (λ (h : n < 128). rw (lt-ltb n 128 h) (omega arith)) (λ (h : 128 ≤ n). rw (le-ltb n 128 h) (omega arith)) (cases_lt n 128)

pub head_long : (t n : ℕ) → 2 ≤ length (head t n)
unfolding head
head_long t n = omega (arith, length_octets_pos n)

pub element_long : (t : ℕ) (c : List ℕ) → 2 + length c ≤ length (element t c)
element_long t c = omega (arith, length-append (head t (length c)) c, head_long t (length c))

-- an element under another tag
pub retag_element : (t u : ℕ) (c : List ℕ) → retag t (element u c) ≡ element t c
unfolding head
retag_element t u c = refl

pub length_retag : (t : ℕ) (b : List ℕ) → length (retag t b) ≡ length b
length_retag t [] = refl
length_retag t (x ∷ b) = refl
