-- A value of a name, character by character.
use Rattle.std.proofs.Common.{◌≡◌, nat_eq, ℕ, List, [], ◌∷◌, ◌++◌, Bool, false, length, refl, sym, ap, ◌∙◌, arith}
use Rattle.std.proofs.lemmas.Bool.{ne_eqb}
use Rattle.std.proofs.lemmas.List.{append-nil, append_assoc}
use Rattle.std.proofs.lemmas.Str.{chars-nil, chars_past_char, encodes-chars}
use Rattle.std.proofs.Math.Utf8.{encode, encodes}
use Rattle.std.specs.Str.{IsUtf8, chars}
use Rattle.x509_text.specs.Escapes.{is_nil, escaped, escape_from}

from_chars : (cs bs : List ℕ) → encodes cs ≡ bs → (length bs ≡ 0 → ⊥) → is_nil cs ≡ false
from_chars [] bs e some = absurd (some (ap length (sym e)))
from_chars (c ∷ cs) bs e some = refl

some_left : (bs : List ℕ) → IsUtf8 bs → (length bs ≡ 0 → ⊥) → is_nil (chars bs) ≡ false
some_left bs valid some = from_chars (chars bs) bs (encodes-chars bs valid) some

none_left : (bs : List ℕ) → length bs ≡ 0 → chars bs ≡ []
none_left [] e = chars-nil
none_left (b ∷ bs) e = absurd (omega (arith, e))

pub one_more : (text new whole bs rest : List ℕ) (is_first is_last : Bool) (c : ℕ) → IsUtf8 bs → IsUtf8 rest → bs ≡ encode c ++ rest → is_last ≡ is_nil (chars rest) → new ≡ text ++ escaped is_first is_last c → text ++ escape_from is_first (chars bs) ≡ whole → new ++ escape_from false (chars rest) ≡ whole
one_more text new whole bs rest is_first is_last c valid valid_rest e last n i =
    let split : chars bs ≡ c ∷ chars rest = chars_past_char bs rest c valid e in
    let all : text ++ (escaped is_first is_last c ++ escape_from false (chars rest)) ≡ whole =
    rw last (ap (λ cs. text ++ escape_from is_first cs) (sym split) ∙ i) in
    ap (λ t. t ++ escape_from false (chars rest)) n ∙ append_assoc text (escaped is_first is_last c) (escape_from false (chars rest)) ∙ all

pub at_end : (text whole bs : List ℕ) (is_first : Bool) → length bs ≡ 0 → text ++ escape_from is_first (chars bs) ≡ whole → text ≡ whole
at_end text whole bs is_first e i =
    sym (append-nil text) ∙ ap (λ cs. text ++ escape_from is_first cs) (sym (none_left bs e)) ∙ i

pub last_is : (bs : List ℕ) (is_last : Bool) → IsUtf8 bs → is_last ≡ nat_eq (length bs) 0 → is_last ≡ is_nil (chars bs)
last_is [] is_last valid e = e ∙ sym (ap is_nil chars-nil)
last_is (b ∷ bs) is_last valid e =
    let some : nat_eq (length (b ∷ bs)) 0 ≡ false = ne_eqb (length (b ∷ bs)) 0 (λ z. omega (arith, z)) in
    e ∙ some ∙ sym (some_left (b ∷ bs) valid (λ z. omega (arith, z)))
