-- Where what holds an algorithm has it, and why nothing is found.
use Rattle.std.specs.Prelude.{◌≡◌, ◌≤◌, ◌+◌, ℕ, List, length}
use Rattle.std.proofs.Common.{ap, arith}
use Rattle.asn1_core.specs.Der.{Format}
use Rattle.asn1_core_element.specs.declared.error.Error.{Error}
use Rattle.asn1_core_element.specs.declared.error.Error.TheVariants.{Memory}
use Rattle.asn1_located.specs.Places.{Walk}
use Rattle.asn1_located.specs.declared.walks.Place.{Place}
use Rattle.asn1_located.specs.declared.walks.Step.{Step}
use Rattle.input_ranges.specs.Failures.{refusal_of}
use Rattle.input_ranges.specs.laws.Failures.{is_refusal, memory_fails}
use Rattle.input_ranges.specs.declared.ranges.Refusal.{Refusal}
use Rattle.password_ranges.specs.Holders.{IsPlaceIf, IsRefusal}

pub place_is : (steps : List Step) (b : List ℕ) (place : Place) → Walk steps 0 b place.start place.octets.now → place.start + length place.octets.now ≤ 0 + length b → IsPlaceIf steps b place
place_is steps b place walk inside = record { at = λ n y w. walk; inside = omega (arith, inside) }

pub no_place : (steps : List Step) (b : List ℕ) → ((n : ℕ) (y : List ℕ) → Walk steps 0 b n y → ⊥) → (place : Place) → place.start ≡ 0 → place.octets.now ≡ b → IsPlaceIf steps b place
no_place steps b none place start all = record { at = λ n y w. absurd (none n y w); inside = omega (arith, start, ap length all) }

pub refused_by_memory : {V : Type 0} (F : Format V) (b : List ℕ) (e : Error) (r : Refusal) → e ≡ Memory → r ≡ refusal_of e → IsRefusal F b r
refused_by_memory F b e r m g = is_refusal F b ⊥ e r g (memory_fails ⊥ e m)
