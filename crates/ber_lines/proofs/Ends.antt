-- The contents that are open.
use Rattle.std.proofs.Common.{◌≡◌, ℕ, ◌-◌, ◌≤◌, List, [], ◌∷◌, ◌++◌, false, length, sym, ap, ◌∙◌, arith, append_assoc, length-append}
use Rattle.std.proofs.Math.Seq.{get_or-append_seam}
use Rattle.std.proofs.lemmas.List.{append-nil}
use Rattle.std.proofs.lemmas.Option.{get_or_from_slice_get}
use Rattle.std.proofs.lemmas.List.Elements.{All-cons}
use Rattle.std.specs.Prelude.{get_or, slice_get, Option, None, Some}
use Rattle.std.specs.Option.{option_to_list}
use Rattle.ber_lines.specs.Lines.{LeavesEnded}
use Rattle.ber_lines.specs.declared.walk.Open.{Open}

-- the last of them is left, if it is of definite length and doesn't end after the place
pub leaves_last : (opened left rest : List Open) (at : ℕ) (last : Open) (r : Option Open) → LeavesEnded opened at left → left ≡ rest ++ option_to_list r → Some last ≡ slice_get left (length left - 1) → last.end ≤ at → last.is_indefinite ≡ false → LeavesEnded opened at rest
leaves_last opened left rest at last None h e found le definite =
    record { ended = h.ended; split = h.split ∙ ap (λ l. l ++ h.ended) (e ∙ append-nil rest); none_later = h.none_later; definite = h.definite }
leaves_last opened left rest at last (Some x) h e found le definite =
    let size : length left - 1 ≡ length rest = (let l = ap length e in omega (arith, l, length-append rest (x ∷ []))) in
    let got : get_or left (length left - 1) x ≡ last = get_or_from_slice_get left (length left - 1) last x (sym found) in
    let there : get_or left (length left - 1) x ≡ x = rw (size, e) (get_or-append_seam rest x [] x) in
    let below : x.end ≤ at = omega (arith, ap (λ o. o.end) (sym there ∙ got), le) in
    let same : x.is_indefinite ≡ false = ap (λ o. o.is_indefinite) (sym there ∙ got) ∙ definite in
    record { ended = x ∷ h.ended; split = h.split ∙ ap (λ l. l ++ h.ended) e ∙ append_assoc rest (x ∷ []) h.ended; none_later = All-cons (λ o. o.end ≤ at) x h.ended below h.none_later; definite = All-cons (λ o. o.is_indefinite ≡ false) x h.ended same h.definite }
