-- The signed attributes as they are given (RFC 5652, 5.3 and 11).
use Rattle.std.specs.Prelude.{◌++◌, ◌&&◌, cond, leb, not, Bool, List, Option, None, Some, map}
use Rattle.std.specs.List.{AllByRecursion, filter}
use Rattle.std.specs.Str.{bytes_eq}
use Rattle.std.proofs.Common.{inl, inr}
use Rattle.asn1_core.specs.Der.{IsOid, Octets, OidOctets, object_identifier, octet_string, option_value}
use Rattle.asn1_leaves_times.specs.Times.{moment_of_generalized}
use Rattle.asn1_leaves_times.specs.declared.calendar.Moment.{Moment}
use Rattle.asn1_leaves_times.specs.declared.generalized_time.GeneralizedTime.{GeneralizedTime}
use Rattle.attribute_writers.specs.Attributes.{alone, is_formed}
use Rattle.pkcs7_attributes.specs.NamedAttributes.{content_type_oid, message_digest_oid, signing_time_oid}
use Rattle.signed_writers.specs.declared.attributes.SignedAttributes.{SignedAttributes}
use Rattle.x509_base.specs.Names.{attribute, attribute_value}
use Rattle.x509_base.specs.Times.{time}

abbrev pub content_type_of : SignedAttributes → Option OidOctets
content_type_of x = option_value (λ o. o.now) x.content_type

abbrev pub digest_of : SignedAttributes → Option Octets
digest_of x = option_value (λ o. o.now) x.message_digest

-- a time of signing is UTCTime from 1950 to 2049, and otherwise GeneralizedTime (RFC 5652, 11.3)
abbrev pub signing_time : Moment → time.Value
signing_time m = cond (leb 1950 m.year && leb m.year 2049) (inl m) (inr m)

abbrev pub time_of : Option GeneralizedTime → Option time.Value
time_of o = option_value (λ t. signing_time (moment_of_generalized t)) o

-- those of none of the three types
abbrev pub is_further : attribute.Value → Bool
is_further a = not (bytes_eq a.0 content_type_oid) && (not (bytes_eq a.0 message_digest_oid) && not (bytes_eq a.0 signing_time_oid))

abbrev pub further_of : SignedAttributes → List attribute.Value
further_of x = filter is_further (map attribute_value x.attributes.now)

-- the attributes that are written
abbrev pub given_attributes : SignedAttributes → List attribute.Value
given_attributes x =
    alone content_type_oid object_identifier (content_type_of x)
    ++ (alone message_digest_oid octet_string (digest_of x) ++ (alone signing_time_oid time.format (time_of x.signing_time) ++ further_of x))

-- no content type, or an object identifier
abbrev pub IsTypeOrNone : Option OidOctets → Type 0
IsTypeOrNone None = Unit {0}
IsTypeOrNone (Some x) = IsOid x

-- attributes that can be written: the content type is an object identifier, and further ones are well-formed
abbrev pub AreGood : SignedAttributes → Type 0
AreGood x = IsTypeOrNone (content_type_of x) × AllByRecursion is_formed (further_of x)
