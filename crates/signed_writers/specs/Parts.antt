-- Signed data whose sets are put in order and whose algorithms and signers are encodings, before it is written.
use Rattle.std.specs.Prelude.{◌≡◌, ◌⊎◌, List, [], ◌∷◌, Option, None, Some, map}
use Rattle.std.specs.List.{AllByRecursion}
use Rattle.asn1_core.specs.Der.{ElementOctets}
use Rattle.asn1_core_element.specs.declared.error.Error.{Error}
use Rattle.asn1_core_element.specs.declared.error.Error.TheVariants.{Invalid, Memory}
use Rattle.asn1_sets.specs.Encodings.{AreEncodings}
use Rattle.asn1_sets.specs.Order.{IsInOrder}
use Rattle.pkcs7_content.specs.Versions.{number_of}
use Rattle.signed_writers.specs.PartValues.{certificates_in, crls_in, texts_in}
use Rattle.signed_writers.specs.Signed.{AreDistinct, GivenParts, IsWrong}
use Rattle.signed_writers.specs.Versions.{is_not_data, signed_version}
use Rattle.signed_writers.specs.declared.checks.NotSigned.{NotSigned}
use Rattle.signed_writers.specs.declared.parts.SignedParts.{SignedParts}
use Rattle.signer_ranges.specs.SignerRoutes.{ALGORITHM, SIGNER}
use Rattle.signer_ranges.specs.Signers.{algorithm_text, digest_algorithm_of}
use Rattle.x509_base.specs.Algorithms.{algorithm_identifier}

-- P doesn't hold, or memory was refused
abbrev pub IsRefused : Type 0 → Error → Type 0
IsRefused P e = ((e ≡ Invalid) × (P → ⊥)) ⊎ (e ≡ Memory)

-- a part can't be written, or memory was refused
abbrev pub IsStopped : GivenParts → NotSigned → Type 0
IsStopped given w = ((w.error ≡ Invalid) × IsWrong given w.part w.index) ⊎ (w.error ≡ Memory)

abbrev pub AreFormed : List algorithm_identifier.Value → Type 0
AreFormed all = AllByRecursion (ALGORITHM.format.IsWellFormed 64) all

-- the encodings of algorithms, in the order of DER, each once
pub record AreAlgorithms (given : List algorithm_identifier.Value) (texts : List ElementOctets) : Type 0 where
  pub formed : AreFormed given
  pub all : List algorithm_identifier.Value
  pub distinct : AreDistinct given all
  pub texts_are : texts ≡ map algorithm_text all

-- None for an empty list
abbrev pub set_of_some : List ElementOctets → Option (List ElementOctets)
set_of_some [] = None
set_of_some (e ∷ es) = Some (e ∷ es)

-- a set of elements in the order of DER, or none
pub record IsSetIn (given : List ElementOctets) (set : Option (List ElementOctets)) : Type 0 where
  pub sorted : List ElementOctets
  pub in_order : IsInOrder given sorted
  pub is : set ≡ set_of_some sorted

-- the parts that are given, with the sets in order
pub record HasParts (given : GivenParts) (p : SignedParts) : Type 0 where
  pub version : number_of p.version ≡ signed_version (is_not_data given.info) given.certificates given.crls given.signers
  pub algorithms : AreAlgorithms (map digest_algorithm_of given.signers) (texts_in p.digest_algorithms.0.items)
  pub info : p.content_info ≡ given.info
  pub certificates : IsSetIn given.certificates (certificates_in p.certificates)
  pub crls : IsSetIn given.crls (crls_in p.crls)
  pub signers : AreEncodings SIGNER.format given.signers (texts_in p.signers_infos.0.items)
