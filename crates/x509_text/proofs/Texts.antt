-- The characters of a text that grows.
use Rattle.std.proofs.Common.{◌≡◌, ℕ, List, [], ◌∷◌, ◌++◌, sym, ap, ◌∙◌}
use Rattle.std.proofs.lemmas.List.{append-nil}
use Rattle.std.proofs.lemmas.Str.{chars-nil, chars-append, chars_past_char, IsUtf8-encode}
use Rattle.std.proofs.Math.Utf8.{encode}
use Rattle.std.specs.Char.{IsScalar}
use Rattle.std.specs.Str.{IsUtf8, chars}

pub one_character : (c : ℕ) → IsScalar c → chars (encode c) ≡ c ∷ []
one_character c is = chars_past_char (encode c) [] c (IsUtf8-encode c is) (sym (append-nil (encode c))) ∙ ap (λ cs. c ∷ cs) chars-nil

pub pushed : (old new : List ℕ) (c : ℕ) → IsUtf8 old → IsScalar c → new ≡ old ++ encode c → chars new ≡ chars old ++ (c ∷ [])
pushed old new c valid is e = ap chars e ∙ chars-append old (encode c) valid ∙ ap (λ cs. chars old ++ cs) (one_character c is)

pub all_pushed : (old new added : List ℕ) → IsUtf8 old → new ≡ old ++ added → chars new ≡ chars old ++ chars added
all_pushed old new added valid e = ap chars e ∙ chars-append old added valid
