-- The types of Forms, made of forms.asn1; not to be edited.
use Rattle.asn1_core.specs.Asn1.{Asn1, CHOICE, Contents, IMPLICIT, INTEGER_BELOW, SEQUENCE, contents, end, ◌then◌, ◌OPTIONAL◌}
use Rattle.std.proofs.lemmas.Bool.Decides.{Decides-eqb}
use Rattle.asn1_module_leaves.specs.Asn1.{ENUMERATED_of}
use Rattle.std.specs.Prelude.{List, ℕ, ◌^◌, [], ◌∷◌}
use Rattle.asn1_core.specs.Der.{SeesEqual, option_equal, option_value, same_first, same_second, two_equal, with_end}
use Rattle.asn1_leaves.specs.Asn1.{UTF8_STRING}
use Rattle.asn1_module_leaves.specs.laws.Differ.{differ}
use Rattle.std.proofs.Common.{inl, inr, refl, rules}
use Rattle.asn1_leaves_strings.specs.Octets.{octets_of_utf8}
use Rattle.asn1_module_leaves.specs.LeavesEqual.{utf8_equal}
use Rattle.made_forms.specs.declared.forms.Sender.{Sender}
use Rattle.made_forms.specs.declared.forms.Sender.TheVariants as SenderIs
use Rattle.made_forms.specs.contracts.forms.SenderPartialEq.TheImpl as SenderEq
use Rattle.made_forms.specs.declared.forms.State.{State}
use Rattle.made_forms.specs.declared.forms.State.TheVariants as StateIs
use Rattle.made_forms.specs.contracts.forms.StatePartialEq.TheImpl as StateEq
use Rattle.made_forms.specs.declared.forms.Head.{Head}
use Rattle.made_forms.specs.contracts.forms.HeadPartialEq.TheImpl as HeadEq
use Rattle.made_forms.specs.declared.forms.Message.{Message}
use Rattle.made_forms.specs.contracts.forms.MessagePartialEq.TheImpl as MessageEq

-- Sender ::= CHOICE { name [0] UTF8String, number [1] INTEGER (0..255) }
abbrev pub sender : Asn1
sender =
    CHOICE (IMPLICIT 0 UTF8_STRING) (IMPLICIT 1 (INTEGER_BELOW (2 ^ 8))) refl

abbrev pub sender_value : Sender → sender.Value
sender_value (SenderIs.Name x) = inl (octets_of_utf8 x.0)
sender_value (SenderIs.Number x) = inr x

-- which alternative a value is
abbrev sender_which : sender.Value → ℕ
sender_which (inl v) = 0
sender_which (inr v) = 1

pub sender_equal : SeesEqual SenderEq.ghosts.eq sender_value
sender_equal (SenderIs.Name x) (SenderIs.Name y) = same_first (utf8_equal x y)
sender_equal (SenderIs.Name x) (SenderIs.Number y) = differ sender_which refl refl refl
sender_equal (SenderIs.Number x) (SenderIs.Name y) = differ sender_which refl refl refl
sender_equal (SenderIs.Number x) (SenderIs.Number y) = same_second (Decides-eqb x y)

-- State ::= ENUMERATED { sent(0), received(1), answered(3) }
abbrev pub state_numbers : List ℕ
state_numbers = 0 ∷ 1 ∷ 3 ∷ []

abbrev pub state : Asn1
state = ENUMERATED_of state_numbers refl

abbrev pub state_value : State → ℕ
state_value StateIs.Sent = 0
state_value StateIs.Received = 1
state_value StateIs.Answered = 3

pub state_equal : SeesEqual StateEq.ghosts.eq state_value
state_equal x y = search rules

-- Head ::= SEQUENCE { sender Sender, state State }
abbrev pub head : Contents
head =
    contents (sender then state then end) refl

abbrev pub head_value : Head → head.Value
head_value x = (sender_value x.sender, (state_value x.state, tt))

pub head_equal : SeesEqual HeadEq.ghosts.eq head_value
head_equal x y = two_equal (sender_equal x.sender y.sender) (with_end (state_equal x.state y.state))

-- Message ::= SEQUENCE { head Head, text UTF8String OPTIONAL }
abbrev pub message : Contents
message =
    contents (SEQUENCE head then UTF8_STRING OPTIONAL end) refl

abbrev pub message_value : Message → message.Value
message_value x = (head_value x.head, (option_value (λ y. octets_of_utf8 y.0) x.text, tt))

pub message_equal : SeesEqual MessageEq.ghosts.eq message_value
message_equal x y = two_equal (head_equal x.head y.head) (with_end (option_equal _ (λ y. octets_of_utf8 y.0) utf8_equal x.text y.text))
