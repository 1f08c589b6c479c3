-- Laws of `Inputs.antt`.
use Rattle.std.specs.Prelude.{◌≡◌, ℕ, List, Option, None, Some, Result, Ok, Err}
use Rattle.std.proofs.Common.{Vec, Global, arith, inl, inr, sym, subst, ◌∙◌}
use Rattle.asn1_core.specs.Der.{Format, IsValueOf}
use Rattle.asn1_core_element.specs.declared.error.Error.{Error}
use Rattle.asn1_core_element.specs.declared.error.Error.TheVariants.{TooLong, Memory}
use Rattle.input_ranges.specs.Failures.{IsRefusalOf}
use Rattle.input_ranges.specs.declared.ranges.Refusal.{Refusal}
use Rattle.input_ranges.specs.declared.ranges.Refusal.TheVariants.{Refused, Part, NoRange}
use Rattle.container_parts.specs.Copies.{Copies, CopiesOne, IsLong, IsNotCopied}
use Rattle.container_parts.specs.Inputs.{GivesNoPart, GivesPart, HasLongPart, Meaning, RefusesPart, part_of, with_refusal}

module _ (M : Meaning) (b : List ℕ) where
  is_long : (octets : Option (List ℕ)) → M.Has b octets → IsLong octets → HasLongPart M b
  is_long None has long = absurd long
  is_long (Some octets) has long = record { octets = octets; has = has; long = long }

  not_copied : (octets : Option (List ℕ)) → M.Has b octets → (e : Error) → IsNotCopied octets e → GivesNoPart M b e
  not_copied octets has e (inl memory) = record {
    none = λ m. absurd (m memory);
    long = λ l. absurd (let n : TooLong ≡ Memory = sym l ∙ memory in cc);
  }
  not_copied octets has e (inr long) = record {
    none = λ m l. absurd (l long.0);
    long = λ l. is_long octets has long.1;
  }

  -- octets that the input has were copied
  pub gives_copy : (octets : Option (List ℕ)) → M.Has b octets → (r : Result (Option (Vec ℕ Global)) Error) → Copies octets r → GivesPart M b (with_refusal r)
  gives_copy octets has (Ok found) c = subst (M.Has b) (sym c) has
  gives_copy octets has (Err e) c = (not_copied octets has e c, omega arith)

module _ {V : Type 0} (F : Format V) (Is : V → Option (List ℕ) → Type 0) (b : List ℕ) where
  -- the input doesn't read
  pub refused : (refusal : Refusal) → IsRefusalOf F b ⊥ refusal → RefusesPart (part_of F Is) b refusal
  refused (Refused e place) why = (
    record { none = λ m l v r. why.0.none m v r; long = λ l. absurd (why.0.kind l) },
    why.1,
  )
  refused (Part e place) why = absurd why
  refused NoRange why = why

  -- the input reads, and what is said of its value was copied
  pub gives : (v : V) → IsValueOf F 64 b v → (r : Result (Option (Vec ℕ Global)) Error) → CopiesOne (Is v) r → GivesPart (part_of F Is) b (with_refusal r)
  gives v is r c = gives_copy (part_of F Is) b c.octets (record { value = v; is_value = is; is = c.are }) r c.copies
