-- What a time stamp signs (RFC 3161, 2.4.2).
-- MessageImprint ::= SEQUENCE { hashAlgorithm AlgorithmIdentifier, hashedMessage OCTET STRING }, as DigestInfo is
-- Accuracy ::= SEQUENCE { seconds INTEGER OPTIONAL, millis [0] INTEGER OPTIONAL, micros [1] INTEGER OPTIONAL }
-- genTime may have a fraction of a second, so its contents octets are kept; so are the name and the parts of Accuracy.
use Rattle.std.specs.Prelude.{map}
use Rattle.std.proofs.Common.{arith, rules, ap, refl}
use Rattle.asn1_core.specs.Asn1.{Asn1, asn1_tagged, Contents, contents, ◌then◌, ◌OPTIONAL◌, ◌DEFAULT◌, end, VERSION, OBJECT_IDENTIFIER, ANY, BOOLEAN_or_FALSE, list_of, SEQUENCE, SEQUENCE_OF, EXPLICIT, IMPLICIT}
use Rattle.asn1_core.specs.Der.{octets_of, option_value, any_octets, lawful_leaf, der_equal, SeesEqual, two_equal, option_equal, list_equal, with_end, raw_equal}
use Rattle.std.specs.Cmp.{booleans_Decides}
use Rattle.asn1_core.specs.laws.ViewsEqual.{oid_equal}
use Rattle.asn1_core_format.specs.laws.LeafLaws.{lawful_verbatim}
use Rattle.asn1_core_format.specs.laws.TaggedLaws.{leaf_tagged}
use Rattle.asn1_leaves.specs.Asn1.{INTEGER}
use Rattle.x509_base.specs.Digests.{digest_info_value, digest_info}
use Rattle.x509_base.specs.Extensions.{extension_equal, extension, extension_value}
use Rattle.asn1_leaves.specs.contracts.integers.IntegerAsn1PartialEq.TheImpl as Integers
use Rattle.x509_base.specs.contracts.digests.DigestInfoPartialEq.TheImpl as Imprints
use Rattle.x509_pkcs7.specs.declared.verifier.time_stamps.TstInfo.{TstInfo}
use Rattle.x509_pkcs7.specs.declared.verifier.time_stamps.Accuracy.{Accuracy}
use Rattle.x509_pkcs7.specs.contracts.verifier.time_stamps.TstInfoPartialEq.TheImpl as TstEq
use Rattle.x509_pkcs7.specs.contracts.verifier.time_stamps.AccuracyPartialEq.TheImpl as AccuracyEq
use Rattle.x509_pkcs7.specs.contracts.verifier.time_stamps.GenTimePartialEq.TheImpl as GenTimes

abbrev pub gen_time : Asn1
gen_time = asn1_tagged (lawful_leaf 0x18 (omega arith) any_octets (lawful_verbatim (λ _. Unit {0}))) 0x18 (leaf_tagged 0x18 (omega arith) any_octets)

abbrev pub accuracy : Contents
accuracy = list_of ANY

abbrev pub accuracy_value : Accuracy → accuracy.Value
accuracy_value x = map (λ e. e.0.items) x.0.items

pub accuracy_equal : SeesEqual AccuracyEq.ghosts.eq accuracy_value
accuracy_equal x y = search der_equal depth 20

-- TSTInfo ::= SEQUENCE { version INTEGER { v1(1) }, policy TSAPolicyId, messageImprint MessageImprint, serialNumber
--   INTEGER, genTime GeneralizedTime, accuracy Accuracy OPTIONAL, ordering BOOLEAN DEFAULT FALSE, nonce INTEGER
--   OPTIONAL, tsa [0] GeneralName OPTIONAL, extensions [1] IMPLICIT Extensions OPTIONAL }
abbrev pub tst_info : Contents
tst_info =
    contents (VERSION 1 refl then OBJECT_IDENTIFIER then SEQUENCE digest_info then INTEGER then gen_time then
    SEQUENCE accuracy OPTIONAL BOOLEAN_or_FALSE DEFAULT INTEGER OPTIONAL EXPLICIT 0 ANY OPTIONAL
    IMPLICIT 1 (SEQUENCE_OF (SEQUENCE extension)) OPTIONAL end) refl

abbrev pub tst_info_value : TstInfo → tst_info.Value
tst_info_value x = (
  1,
  (
    octets_of x.policy.0,
    (
      digest_info_value x.message_imprint,
      (
        x.serial_number.0.items,
        (
          x.gen_time.0.items,
          (
            option_value accuracy_value x.accuracy,
            (
              x.ordering,
              (
                option_value (λ n. n.0.items) x.nonce,
                (option_value (λ t. t.0.0.items) x.tsa, (option_value (λ e. map extension_value e.0.0.items) x.extensions, tt)),
              ),
            ),
          ),
        ),
      ),
    ),
  ),
)

imprint_equal : SeesEqual Imprints.ghosts.eq digest_info_value
imprint_equal x y = search rules

integer_equal : SeesEqual Integers.ghosts.eq (λ n. n.0.items)
integer_equal x y = search rules

pub gen_time_equal : SeesEqual GenTimes.ghosts.eq (λ t. t.0.items)
gen_time_equal x y = search rules

parts_equal : SeesEqual TstEq.ghosts.eq (λ x. (tst_info_value x).1)
parts_equal x y =
    two_equal (oid_equal x.policy y.policy)
    (two_equal (imprint_equal x.message_imprint y.message_imprint)
    (two_equal (integer_equal x.serial_number y.serial_number)
    (two_equal (gen_time_equal x.gen_time y.gen_time)
    (two_equal (option_equal AccuracyEq.ghosts.eq accuracy_value accuracy_equal x.accuracy y.accuracy)
    (two_equal (booleans_Decides x.ordering y.ordering)
    (two_equal (option_equal Integers.ghosts.eq (λ n. n.0.items) integer_equal x.nonce y.nonce)
    (two_equal (option_equal _ (λ t. t.0.0.items) (λ a b. raw_equal a.0 b.0) x.tsa y.tsa)
    (with_end (option_equal _ (λ e. map extension_value e.0.0.items) (λ a b. list_equal _ _ extension_equal a.0.0.items b.0.0.items) x.extensions y.extensions)))))))))

-- the version is the same
pub tst_info_equal : SeesEqual TstEq.ghosts.eq tst_info_value
tst_info_equal x y = let f = parts_equal x y in (λ e. ap (λ v. (1, v)) (f.0 e), λ e. f.1 (ap (λ v. v.1) e))
