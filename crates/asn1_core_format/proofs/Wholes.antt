-- Whole inputs.
use Rattle.std.proofs.Common.{◌≡◌, ℕ, ◌<◌, [], ◌++◌, length, sym, ap, ◌∙◌, subst, append-nil, arith}
use Rattle.std.proofs.lemmas.List.{length-append}
use Rattle.asn1_core_element.specs.Position.{Position}
use Rattle.asn1_core_element.specs.declared.error.Error.{Error}
use Rattle.asn1_core_element.specs.declared.error.Error.TheVariants.{Malformed}
use Rattle.asn1_core_format.specs.Format.{Format, IsLawful, HasRead, HasRefused}
use Rattle.asn1_core_format.specs.laws.Formats.{texts_cut}
use Rattle.asn1_core_format.specs.Whole.{IsValueOf, HasNoValue, HeadersOfRefused}
use Rattle.asn1_core_format.specs.laws.Whole.{value_of}

module _ {V : Type 0} (F : Format V) (k : ℕ) where
  pub refused_input : {old new : Position} {e : Error} → HasRefused F k old new e → HasNoValue F k old.left e
  refused_input {old} g = record { kind = g.kind; none = λ m v r. g.none m old.left [] v (sym (append-nil old.left)) r }

  pub left_over : {old new : Position} {u : V} → IsLawful F → HasRead F k old new u → 0 < length new.left → HasNoValue F k old.left Malformed
  left_over {old} {new} {u} f t some = record {
    kind = λ p. cc;
    none = λ m v r.
        let e = texts_cut F f k t.taken old.left new.left [] u v t.reads r (sym t.split ∙ sym (append-nil old.left)) in
        omega (arith, ap length e.1, some);
  }

  pub whole_input : {old new : Position} {v : V} → IsLawful F → HasRead F k old new v → new.left ≡ [] → IsValueOf F k old.left v
  whole_input {old} {new} {v} f t done =
      let e : old.left ≡ t.taken = t.split ∙ ap (λ x. t.taken ++ x) done ∙ append-nil t.taken in
      value_of F k old.left v f (subst (λ b. F.Reads k b v) (sym e) t.reads)

  pub refused_headers : {old new : Position} {e : Error} → old.headers ≡ 0 → HasRefused F k old new e → HeadersOfRefused F k old.left e new.headers
  refused_headers {old} {new} start g = record {
    at_most = omega (arith, start, g.at_most);
    at_least = λ m a x v p r. absurd (g.none m a x v p r);
  }

  pub left_over_headers : {old new : Position} {u : V} {e : Error} → IsLawful F → old.headers ≡ 0 → HasRead F k old new u → HeadersOfRefused F k old.left e new.headers
  left_over_headers {old} {new} {u} f start t = record {
    at_most = omega (arith, start, t.at_most, ap length t.split, length-append t.taken new.left);
    at_least = λ m a x v p r.
        let c = texts_cut F f k t.taken a new.left x u v t.reads r (sym t.split ∙ p) in
        let s : u ≡ v = f.components.one_value k a u v (subst (λ b. F.Reads k b u) c.0 t.reads) r in
        omega (arith, start, t.at_least, ap F.least s);
  }
