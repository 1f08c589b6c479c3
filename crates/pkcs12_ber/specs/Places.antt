-- The place of a refusal is in the bytes that it speaks of.
use Rattle.std.specs.Prelude.{◌≡◌, ◌≤◌, ◌<◌, ◌⊎◌, ℕ, List, length, get_or}
use Rattle.std.proofs.Common.{inl, inr}
use Rattle.asn1_core.specs.Der.{Octets, sequence}
use Rattle.ber_der.specs.Ber.{IsBer}
use Rattle.ber_der.specs.Typed.{IsBerValueOf}
use Rattle.ber_der.specs.declared.contexts.Role.TheVariants.{Whole}
use Rattle.x509_pkcs12.specs.AuthSafes.{AuthSafeValue}
use Rattle.x509_pkcs12.specs.Pfxs.{PfxValue}
use Rattle.pkcs12_ber.specs.InDer.{safe, IsSafeInDer}
use Rattle.pkcs12_ber.specs.Pfxs.{ber_pfx}
use Rattle.pkcs12_ber.specs.declared.reading.BufferOffset.{BufferOffset}
use Rattle.pkcs12_ber.specs.declared.reading.BufferOffset.TheVariants.{File, AuthSafe, Data, FileDer, AuthSafeDer, Contents}

-- in the data of one of these contents
abbrev pub InData : List (AuthSafeValue Octets) → BufferOffset → Type 0
InData contents (Data index at) = (octets : List ℕ) × (index < length contents) × (get_or contents index (inl octets) ≡ inl octets) × (at ≤ length octets)
InData contents (File at) = ⊥
InData contents (AuthSafe at) = ⊥
InData contents (FileDer at) = ⊥
InData contents (AuthSafeDer at) = ⊥
InData contents (Contents at) = ⊥

-- in octets that a MAC covers, in their DER, in the data of a content, or in the DER with DER in all data
abbrev pub InOctets : List ℕ → BufferOffset → Type 0
InOctets octets (AuthSafe at) = at ≤ length octets
InOctets octets (AuthSafeDer at) = (outer : List ℕ) × IsBer 64 Whole octets outer × (at ≤ length outer)
InOctets octets (Data index at) = (outer : List ℕ) × (contents : List (AuthSafeValue Octets)) × IsBer 64 Whole octets outer × safe.Reads 64 outer contents × InData contents (Data index at)
InOctets octets (Contents at) = (der : List ℕ) × IsSafeInDer octets der × (at ≤ length der)
InOctets octets (File at) = ⊥
InOctets octets (FileDer at) = ⊥

abbrev pub InAuthSafe : AuthSafeValue Octets → BufferOffset → Type 0
InAuthSafe (inl octets) place = InOctets octets place
InAuthSafe (inr other) place = ⊥

-- in the file or in its DER
abbrev pub InFile : List ℕ → BufferOffset → Type 0
InFile b (File at) = at ≤ length b
InFile b (FileDer at) = (der : List ℕ) × IsBer 64 Whole b der × (at ≤ length der)
InFile b (AuthSafe at) = ⊥
InFile b (Data index at) = ⊥
InFile b (AuthSafeDer at) = ⊥
InFile b (Contents at) = ⊥

-- in these, or in what the authSafe of the file is
abbrev pub LiesIn : List ℕ → BufferOffset → Type 0
LiesIn b place = InFile b place ⊎ ((w : PfxValue Octets) × IsBerValueOf (sequence ber_pfx.format) b w × InAuthSafe w.1.0 place)
