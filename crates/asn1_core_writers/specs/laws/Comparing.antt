-- Laws of `Comparing.antt`.
use Rattle.std.specs.Prelude.{◌≡◌, ◌≢◌, ℕ, ◌+◌, ◌-◌, ◌≤◌, List, ◌++◌, length, take, drop, Option, Some, Result, Ok, Err}
use Rattle.std.proofs.Common.{refl, sym, ap, subst, ◌∙◌, inl, inr, arith, append_assoc, length-append}
use Rattle.std.proofs.lemmas.Bool.{cases_lt}
use Rattle.std.proofs.lemmas.List.{append_cancel_right, drop-append-le, take-append-drop}
use Rattle.std.proofs.lemmas.List.Prefix.{end_rest}
use Rattle.std.proofs.Math.Seq.{drop-append-add}
use Rattle.asn1_core_writers.specs.Writers.{IsBackward}
use Rattle.asn1_core_writers.specs.declared.writer.WriteError.{WriteError}
use Rattle.asn1_core_writers.specs.Comparing.{Compared, ComparesTo, Comparison, IsBefore, IsLongestEnd, IsPlace, before_of, place_of}

before_more : (s t : List ℕ) (o p q : Option (List ℕ)) → IsBefore t o p → IsBefore s p q → IsBefore (s ++ t) o q
before_more s t o p q h k b = (
  λ e. (h (b ++ s)).0 ((k b).0 e) ∙ ap Some (append_assoc b s t),
  λ e. (k b).1 ((h (b ++ s)).1 (e ∙ ap Some (sym (append_assoc b s t)))),
)

-- bytes that follow both are of the longest end
pub longest_more : (s t b : List ℕ) (n : ℕ) → IsLongestEnd s b n → IsLongestEnd (s ++ t) (b ++ t) n
longest_more s t b n h = record {
  front = h.front;
  ends = ap (λ l. l ++ t) h.ends ∙ append_assoc h.front (drop n b) t ∙ ap (λ l. h.front ++ l) (sym (drop-append-le n b t h.inside));
  inside = omega (arith, h.inside, length-append b t);
  longest = λ m other e. elim (cases_lt (length b) m) [
    | inl past ↦ omega (arith, h.inside, past)
    | inr within ↦
        let split = e ∙ ap (λ l. other ++ l) (drop-append-le m b t (omega (arith, within))) ∙ sym (append_assoc other (drop m b) t) in
        h.longest m other (append_cancel_right s (other ++ drop m b) t split)
  ];
}

-- of two ends of one list the shorter is an end of the longer
shorter_end : (s t o u : List ℕ) → s ++ t ≡ o ++ u → length u ≤ length t → (g : List ℕ) × (t ≡ g ++ u)
shorter_end s t o u e le =
    let n = length t - length u in
    let long : length (s ++ t) - length u ≡ length s + n = omega (arith, length-append s t, le) in
    let rest : u ≡ drop n t = sym (end_rest (s ++ t) u o e) ∙ ap (λ k. drop k (s ++ t)) long ∙ drop-append-add s t n in
    (take n t, sym (take-append-drop n t) ∙ ap (λ l. take n t ++ l) (sym rest))

-- what comes before an encoding that is no end changes nothing
longest_stays : (s t b : List ℕ) (n : ℕ) → ((f : List ℕ) → b ≢ f ++ t) → IsLongestEnd t b n → IsLongestEnd (s ++ t) b n
longest_stays s t b n none h = record {
  front = s ++ h.front;
  ends = ap (λ l. s ++ l) h.ends ∙ sym (append_assoc s h.front (drop n b));
  inside = h.inside;
  longest = λ m other e. elim (cases_lt (length t) (length (drop m b))) [
    | inl less ↦
        let g = shorter_end other (drop m b) s t (sym e) (omega (arith, less)) in
        absurd (none (take m b ++ g.0) (sym (take-append-drop m b) ∙ ap (λ l. take m b ++ l) g.1 ∙ sym (append_assoc (take m b) g.0 t)))
    | inr more ↦
        let g = shorter_end s t other (drop m b) e more in
        h.longest m g.0 g.1
  ];
}

place_more : (s t : List ℕ) (o p q : Result (List ℕ) ℕ) → IsBefore t (before_of o) (before_of p) → IsPlace t o p → IsPlace s p q → IsPlace (s ++ t) o q
place_more s t (Err n) (Err m) q h k i = i ∙ k
place_more s t (Err n) (Ok b) q h k i = absurd (let e = (h b).0 refl in cc)
place_more s t (Ok b) (Err m) q h k i = subst (IsLongestEnd (s ++ t) b) (sym i) (longest_stays s t b m (λ f e. (let none = (h f).1 (ap Some e) in cc)) k)
place_more s t (Ok b) (Ok c) q h k i = (let e : c ++ t ≡ b = (let f = (h c).0 refl in cc) in subst (λ l. IsLongestEnd (s ++ t) l (place_of q)) e (longest_more s t c (place_of q) i))

compares_more : (s t : List ℕ) (w x y : Comparison) (r : Result (Unit {0}) WriteError) → Compared t w x → ComparesTo s x y r → ComparesTo (s ++ t) w y r
compares_more s t w x y (Ok u) p q = record {
  total = omega (arith, p.total, q.total, length-append s t);
  before = before_more s t (before_of w.before) (before_of x.before) (before_of y.before) p.before q.before;
  place = place_more s t w.before x.before y.before p.before p.place q.place;
}
compares_more s t w x y (Err e) p q = (q.0, omega (arith, p.total, q.1, length-append s t))

pub compared_backward : IsBackward ComparesTo (λ c. c.total)
compared_backward = record {
  stops = λ a b w x e p. (p.0, omega (arith, p.1, length-append a b));
  goes_on = λ a b w x y u r. compares_more a b w x y r;
  counts = λ a w x u p. p.total;
}
