-- Texts that spell no object identifier.
use Rattle.std.specs.Prelude.{ℕ, ◌<◌, ◌^◌, List, [], ◌∷◌, All}
use Rattle.std.specs.Fmt.{decimal}
use Rattle.std.specs.Str.{IsAscii, IsUtf8}
use Rattle.std.proofs.Common.{arith, inl, inr, rules, subst, sym}
use Rattle.std.proofs.lemmas.Fmt.{IsAscii-decimal}
use Rattle.std.proofs.lemmas.List.Elements.{All-head, All-tail}
use Rattle.std.proofs.lemmas.Str.{IsAscii-append, IsUtf8-from_ascii}
use Rattle.std.proofs.lemmas.Str.Ascii.{IsAscii-cons, IsAscii-nil}
use Rattle.asn1_core_oid.specs.OidText.{IsTextOf, arcs_text, dot}
use Rattle.asn1_core_oid.specs.laws.OidTextLaws.{arcs_fit}
use Rattle.asn1_core_oid.specs.Refusal.{IsRefusal}
use Rattle.asn1_core_element.specs.declared.error.Error.{Error}
use Rattle.call_values.proofs.Statuses.{IsError}
use Rattle.call_values.specs.Given.{HasNone}
use Rattle.call_values.specs.Statuses.{refusing}

abbrev Fit : ℕ → Type 0
Fit n = n < 2 ^ 64

ascii_arcs : (arcs : List ℕ) → All Fit arcs → IsAscii (arcs_text arcs)
ascii_arcs [] h = IsAscii-nil
ascii_arcs (n ∷ []) h = IsAscii-decimal n (All-head Fit n [] h)
ascii_arcs (n ∷ m ∷ arcs) h =
    IsAscii-append (decimal n) (dot ∷ arcs_text (m ∷ arcs)) (IsAscii-decimal n (All-head Fit n (m ∷ arcs) h)) (IsAscii-cons dot (arcs_text (m ∷ arcs)) (omega arith) (ascii_arcs (m ∷ arcs) (All-tail Fit n (m ∷ arcs) h)))

-- what isn't UTF-8 spells none
pub no_spelling : (text : List ℕ) → (IsUtf8 text → ⊥) → HasNone (IsTextOf text)
no_spelling text none octets t = none (subst IsUtf8 (sym t.spelled) (IsUtf8-from_ascii (arcs_text t.arcs) (ascii_arcs t.arcs (arcs_fit t.arcs t.fits))))

pub oid_error : (HasNone : Type 0) (e : Error) → IsRefusal HasNone e → IsError (refusing HasNone) e
oid_error HasNone e (inl memory) = search rules
oid_error HasNone e (inr why) = search rules
