-- What Authenticode says of a PE image.
-- SpcPeImageFlags ::= BIT STRING { includeResources (0), includeDebugInfo (1), includeImportAddressTable (2) }
-- SpcPeImageData ::= SEQUENCE { flags SpcPeImageFlags DEFAULT { includeResources }, file [0] EXPLICIT SpcLink }
-- Absent flags are read as their default. Flags are always written, the default too.
use Rattle.std.specs.Prelude.{◌≡◌, ℕ, ◌+◌, List, [], ◌∷◌, Option, Some, None}
use Rattle.asn1_core.specs.Der.{Format, sequence, part, optional, nothing, BitStringOctets, explicit, element, NextIs, Loosening, least_unless, SeesEqual, der_equal}
use Rattle.std.specs.Str.{bytes_eq}
use Rattle.asn1_leaves.specs.Strings.{bit_string}
use Rattle.x509_base.specs.SpcLinks.{spc_link, spc_link_value}
use Rattle.asn1_leaves_strings.specs.Octets.{contents_of}
use Rattle.pkcs7_content.specs.declared.pe_images.SpcPeImageData.{SpcPeImageData}
use Rattle.std.proofs.Common.{rules}
use Rattle.x509_base.specs.contracts.spc.links.SpcLinkPartialEq.TheImpl as LinkEq
use Rattle.pkcs7_content.specs.contracts.pe_images.SpcPeImageFlagsPartialEq.TheImpl as FlagsEq
use Rattle.pkcs7_content.specs.contracts.pe_images.SpcPeImageDataPartialEq.TheImpl as PeImageEq

-- the bits 1 0 0
abbrev pub default_flags : BitStringOctets
default_flags = 5 ∷ 0x80 ∷ []

abbrev pub PeImageValue : Type 0
PeImageValue = BitStringOctets × (spc_link.Value × Unit {0})

abbrev pub spc_pe_image_data_value : SpcPeImageData → PeImageValue
spc_pe_image_data_value x = (contents_of x.flags.0.0, (spc_link_value x.file.0, tt))

abbrev pub file_components : Format (spc_link.Value × Unit {0})
file_components = part (explicit 0 spc_link.format) nothing

-- with the flags as they are encoded, present or absent
abbrev pub pe_image_spelled : Format (Option BitStringOctets × (spc_link.Value × Unit {0}))
pe_image_spelled = sequence (optional bit_string file_components)

abbrev pub flags_or_default : Option BitStringOctets → BitStringOctets
flags_or_default (Some flags) = flags
flags_or_default None = default_flags

-- the contents of the SEQUENCE begin with the tag of flags
abbrev pub HasFlags : List ℕ → Type 0
HasFlags b = (c : List ℕ) × (b ≡ element 0x30 c) × NextIs (λ t. t ≡ 0x03) c

abbrev pub flags_written : Loosening (Option BitStringOctets × (spc_link.Value × Unit {0})) PeImageValue
flags_written = record {
  read = λ a. (flags_or_default a.0, a.1);
  written = λ v. (Some v.0, v.1);
  normal = λ v. (v.0, file_components.normal v.1);
  IsProper = λ _. Unit {0};
  IsWritten = HasFlags;
  least = λ v. 1 + (least_unless (bytes_eq v.0 default_flags) 1 + file_components.least v.1);
}

flags_equal : SeesEqual FlagsEq.ghosts.eq (λ x. contents_of x.0.0)
flags_equal x y = search rules

link_equal : SeesEqual LinkEq.ghosts.eq spc_link_value
link_equal x y = search rules

pub spc_pe_image_data_equal : SeesEqual PeImageEq.ghosts.eq spc_pe_image_data_value
spc_pe_image_data_equal x y = search (der_equal, flags_equal, link_equal) depth 20
