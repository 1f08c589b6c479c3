-- From what was delivered to the sink to what the contract of a run says.
use Rattle.std.proofs.Common.{◌≡◌, ℕ, List, [], refl, sym, subst, ⊎_elim, rules, arith}
use Rattle.std.specs.Prelude.{Option, Some, None, IfSome, unwrap_or}
use Rattle.asn1_core_element.specs.declared.error.Error.{Error}
use Rattle.asn1_core_element.specs.declared.error.Error.TheVariants.{Memory}
use Rattle.der_engine.specs.Engine.{Rewriting, IsRefusal}
use Rattle.der_engine.specs.Lines.{refusal_line}
use Rattle.der_engine.specs.Steps.{Delivered, CutOff, Delivers, Tells}
use Rattle.der_engine.specs.declared.outcome.Mode.{Mode}
use Rattle.der_engine.specs.declared.outcome.Outcome.{Outcome}
use Rattle.der_engine.specs.declared.outcome.Outcome.TheVariants.{Refused}

module _ {S : Type 0} (K : Rewriting) (b : List ℕ) (e : Error) (mode : Mode) (received : S → Option (List ℕ)) (old new : S) (failed failed_now : ℕ) (result : Outcome) where
  whole : IsRefusal K b e → Delivered (Refused e) (refusal_line mode e) (received old) (received new) failed failed_now result → Tells K b mode received old new failed failed_now result
  whole r w =
      subst (λ o. Tells K b mode received old new failed failed_now o) (sym w.same) (record {
        leaves = record { written = _; says = record { refusal = r; line = refl }; appended = w.appended };
        reads = refl;
        writes = omega (arith, w.count);
      })

  part : IsRefusal K b e → CutOff (refusal_line mode e) (received old) (received new) failed failed_now result → Tells K b mode received old new failed failed_now result
  part r w =
      subst (λ o. Tells K b mode received old new failed failed_now o) (sym w.is_failure) (record {
        leaves = record { outcome = Refused e; written = _; unwritten = w.part.unwritten; says = record { refusal = r; line = sym w.part.split }; appended = w.part.appended };
        reads = refl;
        writes = w.count;
      })

  pub refused : IsRefusal K b e → Delivers (Refused e) (refusal_line mode e) (received old) (received new) failed failed_now result → Tells K b mode received old new failed failed_now result
  refused r d = ⊎_elim (whole r) (part r) d

-- a refusal for memory says nothing of b
pub no_memory : (K : Rewriting) (b : List ℕ) → IsRefusal K b Memory
no_memory K b = record { long = λ h. search rules; none = λ n m. absurd (m refl) }

-- there is an input, whatever is known of it
pub some_input : (coming : Option (List ℕ)) → IfSome coming (λ all. unwrap_or coming [] ≡ all)
some_input None = tt
some_input (Some all) = refl
