-- Laws of the types of Forms, made of forms.asn1; not to be edited.
use Rattle.asn1_module_leaves.specs.Enumerations.{IsOneOf}
use Rattle.std.proofs.Common.{inl, inr, refl}
use Rattle.made_forms.specs.Forms.{state_numbers, state_value}
use Rattle.made_forms.specs.declared.forms.State.{State}
use Rattle.made_forms.specs.declared.forms.State.TheVariants as StateIs

pub state_listed : (x : State) → IsOneOf state_numbers (state_value x)
state_listed StateIs.Sent = inl refl
state_listed StateIs.Received = inr (inl refl)
state_listed StateIs.Answered = inr (inr (inl refl))
