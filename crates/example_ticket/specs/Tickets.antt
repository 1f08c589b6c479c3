-- Ticket ::= SEQUENCE { serial INTEGER (0..4294967295), note [0] EXPLICIT OCTET STRING OPTIONAL, holder Holder }
-- Holder ::= SEQUENCE { type OBJECT IDENTIFIER, value ANY DEFINED BY type }; for 1.3.6.1.4.1.32473.1 an OCTET STRING,
--   a token
use Rattle.std.specs.Prelude.{ℕ, ◌^◌, List, [], ◌∷◌}
use Rattle.std.proofs.Common.{inl, inr, refl}
use Rattle.asn1_core.specs.Asn1.{Contents, contents, ◌then◌, ◌OPTIONAL◌, end, ANY, INTEGER_BELOW, EXPLICIT, OCTET_STRING, SEQUENCE}
use Rattle.asn1_core.specs.Der.{arcs, octets_of, option_value}
use Rattle.asn1_choices.specs.ByOid.{if_oid, any_oid, chosen, alone}
use Rattle.example_ticket.specs.declared.Holder.{Holder}
use Rattle.example_ticket.specs.declared.Holder.TheVariants as Alternative
use Rattle.example_ticket.specs.declared.Ticket.{Ticket}

abbrev pub token_oid : List ℕ
token_oid = arcs (1 ∷ 3 ∷ 6 ∷ 1 ∷ 4 ∷ 1 ∷ 32473 ∷ 1 ∷ [])

abbrev pub holder : Contents
holder = chosen (if_oid token_oid (alone OCTET_STRING) (any_oid (alone ANY)))

abbrev pub holder_value : Holder → holder.Value
holder_value (Alternative.Token octets) = inl octets.0.items
holder_value (Alternative.Unknown type_id value) = inr (octets_of type_id, value.0.items)

abbrev pub ticket : Contents
ticket = contents (INTEGER_BELOW (2 ^ 32) then EXPLICIT 0 OCTET_STRING OPTIONAL SEQUENCE holder then end) refl

abbrev pub ticket_value : Ticket → ticket.Value
ticket_value x = (x.serial, (option_value (λ n. n.0.0.items) x.note, (holder_value x.holder, tt)))
