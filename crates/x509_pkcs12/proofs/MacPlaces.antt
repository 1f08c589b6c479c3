-- Where steps lead in an input that has octets that a MAC covers.
use Rattle.std.specs.Prelude.{◌≡◌, ◌+◌, ℕ, List, ◌++◌, length, drop, Option, None, Some, MatchOption, slice_range}
use Rattle.std.specs.declared.ops.Range.{Range}
use Rattle.std.proofs.Common.{refl, sym, ap, ◌∙◌, subst, arith, append_assoc, length-append}
use Rattle.std.proofs.lemmas.List.{drop_at}
use Rattle.std.proofs.lemmas.List.Edits.{length-between}
use Rattle.asn1_core.specs.Der.{Format, Octets, element, option_value, IsValueOf}
use Rattle.asn1_core_element.specs.Element.{head}
use Rattle.asn1_located.specs.Finding.{contains_element}
use Rattle.asn1_located.specs.laws.Finding.{begins_element, follows_element}
use Rattle.asn1_located.specs.laws.LocatedLaws.{one_walk}
use Rattle.asn1_located.specs.Places.{IsRangeAt, Walk}
use Rattle.pkcs12_bags.specs.Oids.{data_oid}
use Rattle.x509_pkcs12.specs.MacOctets.{mac_octets, auth_safe_of, Covers}
use Rattle.x509_pkcs12.specs.MacRanges.{IsMacPlace, IsMacRangeIn, mac_steps}
use Rattle.x509_pkcs12.specs.Pfxs.{PfxValue}

-- an input with these octets in its authSafe, between a version and what follows authSafe
module _ (v o mac : List ℕ) where
  abbrev authenticated : List ℕ
  authenticated = element 0x06 data_oid ++ element 0xA0 (element 0x04 o)

  abbrev components : List ℕ
  components = element 0x02 v ++ (auth_safe_of o ++ mac)

  abbrev input : List ℕ
  input = element 0x30 components

  -- what precedes the octets: four headers and two elements
  abbrev to_auth_safe : ℕ
  to_auth_safe = 0 + length (head 0x30 (length components)) + length (element 0x02 v)

  abbrev to_content : ℕ
  to_content = to_auth_safe + length (head 0x30 (length authenticated)) + length (element 0x06 data_oid)

  abbrev first : ℕ
  first = to_content + length (head 0xA0 (length (element 0x04 o))) + length (head 0x04 (length o))

  walk_there : Walk mac_steps 0 input first o
  walk_there = (
    _,
    components,
    contains_element 0 0x30 input components (omega arith) refl,
    (
      _,
      auth_safe_of o ++ mac,
      follows_element _ 0x02 v (auth_safe_of o ++ mac) (omega arith),
      (
        _,
        auth_safe_of o,
        begins_element _ 0x30 authenticated mac (omega arith),
        (
          _,
          authenticated,
          contains_element _ 0x30 (auth_safe_of o) authenticated (omega arith) refl,
          (
            _,
            element 0xA0 (element 0x04 o),
            follows_element _ 0x06 data_oid (element 0xA0 (element 0x04 o)) (omega arith),
            (
              _,
              element 0x04 o,
              contains_element _ 0xA0 (element 0xA0 (element 0x04 o)) (element 0x04 o) (omega arith) refl,
              (_, o, contains_element _ 0x04 (element 0x04 o) o (omega arith) refl, (refl, refl)),
            ),
          ),
        ),
      ),
    ),
  )

  abbrev up_to_mac : List ℕ
  up_to_mac = head 0x30 (length components) ++ (element 0x02 v ++ auth_safe_of o)

  before_mac : input ≡ up_to_mac ++ mac
  before_mac =
      ap (λ z. head 0x30 (length components) ++ z) (sym (append_assoc (element 0x02 v) (auth_safe_of o) mac))
      ∙ sym (append_assoc (head 0x30 (length components)) (element 0x02 v ++ auth_safe_of o) mac)

  long : length up_to_mac ≡ first + length o
  long = omega (
    arith,
    length-append (head 0x30 (length components)) (element 0x02 v ++ auth_safe_of o),
    length-append (element 0x02 v) (auth_safe_of o),
    length-append (head 0x30 (length authenticated)) authenticated,
    length-append (element 0x06 data_oid) (element 0xA0 (element 0x04 o)),
    length-append (head 0xA0 (length (element 0x04 o))) (element 0x04 o),
    length-append (head 0x04 (length o)) o,
  )

  after_them : drop (first + length o) input ≡ mac
  after_them = ap (drop (first + length o)) before_mac ∙ drop_at up_to_mac mac (first + length o) long

module _ {b o : List ℕ} (c : Covers b o) where
  there : Walk mac_steps 0 b (first c.version_octets o c.mac) o
  there = subst (λ x. Walk mac_steps 0 x (first c.version_octets o c.mac) o) (sym c.is) (walk_there c.version_octets o c.mac)

  module _ {start end : ℕ} (r : IsRangeAt mac_steps b start end) where
    same : slice_range b start end ≡ o
    same = (one_walk mac_steps 0 b start (first c.version_octets o c.mac) (slice_range b start end) o r.walk there).1

    ends : end ≡ first c.version_octets o c.mac + length o
    ends =
        let begins = (one_walk mac_steps 0 b start (first c.version_octets o c.mac) (slice_range b start end) o r.walk there).0 in
        omega (arith, begins, r.inside.0, ap length same, length-between b start end r.inside.1)

    is_place : IsMacPlace b start end
    is_place = record {
      walk = r.walk;
      covers = record {
        version_octets = c.version_octets;
        mac = c.mac;
        is = c.is ∙ ap (λ z. element 0x30 (element 0x02 c.version_octets ++ (auth_safe_of z ++ c.mac))) (sym same);
      };
      after = ap (drop end) c.is ∙ ap (λ n. drop n (input c.version_octets o c.mac)) ends ∙ after_them c.version_octets o c.mac;
      inside = r.inside;
    }

  -- what steps find in the input is the range of the octets that its MAC covers
  pub range_found : {F : Format (PfxValue Octets)} {w : PfxValue Octets} (r : Option (Range ℕ)) → IsValueOf F 64 b w → mac_octets w ≡ Some o → MatchOption r ((n : ℕ) (y : List ℕ) → Walk mac_steps 0 b n y → ⊥) (λ r. IsRangeAt mac_steps b r.start r.end) → IsMacRangeIn F b (option_value (λ r. (r.start, r.end)) r)
  range_found None is e none = absurd (none (first c.version_octets o c.mac) o there)
  range_found {F} {w} (Some r) is e f = record { value = w; is_value = is; octets = ap Some (same f) ∙ sym e; place = is_place f }
