-- The laws of what Authenticode says of a PE image.
use Rattle.std.specs.Prelude.{◌≡◌, ◌↔◌, ℕ, ◌+◌, ◌≤◌, Bool, List, Option, Some, None, true, false}
use Rattle.std.proofs.Common.{arith, refl, sym, ap, ◌∙◌, subst}
use Rattle.asn1_core.specs.Asn1.{Asn1, asn1_tagged}
use Rattle.asn1_core.specs.Der.{IsLawful, IsLawfulComponents, lawful_sequence, followed_by, lawful_explicit, lawful_nothing, perhaps, element_same, begins_next, next_distinct, IsLoosening, lawful_loosened, least_unless}
use Rattle.std.specs.Str.{bytes_eq}
use Rattle.std.proofs.lemmas.Slice.Eq.{bytes_eq-Decides}
use Rattle.asn1_leaves.specs.laws.Strings.{lawful_bit_string}
use Rattle.asn1_leaves_strings.specs.Bits.{IsBits}
use Rattle.x509_base.specs.SpcLinks.{spc_link}
use Rattle.pkcs7_content.specs.PeImages.{default_flags, PeImageValue, file_components, pe_image_spelled, HasFlags, flags_written}

lawful_file_components : IsLawfulComponents file_components
lawful_file_components = followed_by (lawful_explicit (omega arith) spc_link.law) lawful_nothing

pub lawful_pe_image_spelled : IsLawful pe_image_spelled
lawful_pe_image_spelled = lawful_sequence (perhaps lawful_bit_string refl lawful_file_components)

pub default_is_bits : IsBits default_flags
default_is_bits = (omega arith, λ e. cc)

flags_preserved : (k : ℕ) (a : Option (List ℕ) × (spc_link.Value × Unit {0})) → pe_image_spelled.IsWellFormed k a → pe_image_spelled.IsWellFormed k (flags_written.written (flags_written.read a))
flags_preserved k (Some f, l) h = h
flags_preserved k (None, l) h = (default_is_bits, h.1)

flags_chosen : (k : ℕ) (b : List ℕ) (a : Option (List ℕ) × (spc_link.Value × Unit {0})) → pe_image_spelled.Reads k b a → (HasFlags b ↔ (flags_written.written (flags_written.read a) ≡ a))
flags_chosen k b (Some f, l) s = (
  λ w. refl,
  λ e. (s.0, s.1, begins_next (λ t. t ≡ 0x03) s.2.0 s.2.1 s.0 (lawful_bit_string.element k s.2.0 f s.2.3) s.2.2),
)
flags_chosen k b (None, l) s = (
  λ w.
      let c = (element_same 0x30 0x30 w.0 s.0 (sym w.1 ∙ s.1)).1 in
      absurd (next_distinct (λ t. t ≡ 0x03) (λ t. t ≡ 0xA0) w.0 (λ t h e. omega arith) w.2 (lawful_file_components.begins k w.0 l (subst (λ x. file_components.Reads k x l) (sym c) s.2))),
  λ e. (let h : Some default_flags ≡ None = ap (λ x. x.0) e in cc),
)

one_unless : (t : Bool) → least_unless t 1 ≤ 1
one_unless true = omega arith
one_unless false = omega arith

flags_fewer : (a : Option (List ℕ) × (spc_link.Value × Unit {0})) → flags_written.least (flags_written.read a) ≤ pe_image_spelled.least a
flags_fewer (None, l) = omega arith
flags_fewer (Some f, l) = omega (arith, one_unless (bytes_eq f default_flags))

-- the default flags are what is read where flags are absent, others are read from their own encoding
flags_reached : (t : Bool) (k : ℕ) (v : PeImageValue) → bytes_eq v.0 default_flags ≡ t → pe_image_spelled.IsWellFormed k (flags_written.written v) → (a : Option (List ℕ) × (spc_link.Value × Unit {0})) × pe_image_spelled.IsWellFormed k a × (flags_written.read a ≡ v) × (pe_image_spelled.least a ≡ flags_written.least v)
flags_reached true k v e h = (
  (None, v.1),
  (tt, h.1),
  ap (λ f. (f, v.1)) (sym ((bytes_eq-Decides v.0 default_flags).0 e)),
  ap (λ t. 1 + (least_unless t 1 + file_components.least v.1)) (sym e),
)
flags_reached false k v e h = (flags_written.written v, h, refl, ap (λ t. 1 + (least_unless t 1 + file_components.least v.1)) (sym e))

pub flags_loosening : IsLoosening pe_image_spelled flags_written
flags_loosening = record {
  proper = λ a. tt;
  preserved = flags_preserved;
  chosen = flags_chosen;
  settled = λ k v h i. refl;
  reread = λ k v h i. refl;
  fewer = flags_fewer;
  reached = λ k v h i. flags_reached (bytes_eq v.0 default_flags) k v refl h;
}

abbrev pub spc_pe_image_data : Asn1
spc_pe_image_data = asn1_tagged (lawful_loosened pe_image_spelled lawful_pe_image_spelled flags_written flags_loosening) 0x30 (record { is_tag = omega arith; tags = λ t. (λ e. e, λ e. e); written = λ v. (_, refl) })
