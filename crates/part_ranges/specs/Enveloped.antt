-- ContentInfo ::= SEQUENCE { contentType ContentType, content [0] EXPLICIT ANY DEFINED BY contentType } (RFC 5652, 3)
--   of id-envelopedData
use Rattle.std.specs.Prelude.{ℕ, List, [], ◌∷◌}
use Rattle.asn1_core.specs.Asn1.{ANY}
use Rattle.asn1_core.specs.Der.{arcs, explicit, ElementOctets, Format, nothing, only_oid, part, sequence}
use Rattle.pkcs7_enveloped.specs.Enveloped.{enveloped, enveloped_value, EnvelopedValue}
use Rattle.part_ranges.specs.declared.enveloped.Envelope.{Envelope}

-- id-envelopedData (RFC 5652, 6.1)
abbrev pub enveloped_data_oid : List ℕ
enveloped_data_oid = arcs (1 ∷ 2 ∷ 840 ∷ 113549 ∷ 1 ∷ 7 ∷ 3 ∷ [])

-- over the values and the format of recipients
abbrev pub EnvelopeValue : Type 0 → Type 0
EnvelopeValue V = List ℕ × (EnvelopedValue V × Unit {0})

abbrev pub envelope_value : {R V : Type 0} → (R → V) → Envelope R → EnvelopeValue V
envelope_value value x = (enveloped_data_oid, (enveloped_value value x.enveloped_data.0, tt))

abbrev pub envelope : {V : Type 0} → Format V → Format (EnvelopeValue V)
envelope F = sequence (part (only_oid enveloped_data_oid) (part (explicit 0 (enveloped F)) nothing))

-- enveloped data with each recipient as it is
abbrev pub EnvelopedFileValue : Type 0
EnvelopedFileValue = EnvelopeValue ElementOctets

abbrev pub enveloped_file : Format EnvelopedFileValue
enveloped_file = envelope ANY.format
