-- From the DER of an input, its only one, to what a call answers.
use Rattle.std.proofs.Common.{◌≡◌, ◌≤◌, ◌∙◌, ℕ, List, true, length, sym}
use Rattle.asn1_core_element.specs.declared.error.Error.{Error}
use Rattle.asn1_core_element.specs.declared.error.Error.TheVariants.{TooLong, Memory}
use Rattle.ber_der.specs.Ber.{HasNoDer, IsBer}
use Rattle.ber_der.specs.laws.BerLaws.{one_der}
use Rattle.ber_der.specs.declared.contexts.Role.TheVariants.{Whole}
use Rattle.call_values.proofs.Statuses.{error_written_at}
use Rattle.kind_calls.specs.Conversions.{ConvertsBer, IsDerOf, without_der}
use Rattle.call_values.specs.Statuses.{place_where, status_of}

apart : (e : Error) → e ≡ TooLong → e ≡ Memory → ⊥
apart e long memory = let x : TooLong ≡ Memory = sym long ∙ memory in cc

pub is_der_of : (b t : List ℕ) → IsBer 64 Whole b t → IsDerOf b t
is_der_of b t is = record { is = is; only = λ u v. one_der true 64 Whole b u t v is }

pub not_converted : (b old : List ℕ) (e : Error) (at place status : ℕ) → HasNoDer true 64 b e × (at ≤ length b) → place ≡ place_where e at → status ≡ status_of e → ConvertsBer b old old 0 place status
not_converted b old e at place status why at_is is = error_written_at (λ u. IsDerOf b u) (without_der b) b old e at place status why.1 at_is is (record { none = λ m _. why.0 m; long = λ l. why.0 (λ m. apart e l m); memory = tt })
