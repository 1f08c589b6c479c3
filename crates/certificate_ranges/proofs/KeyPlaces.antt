-- The parts of a certificate's key.
use Rattle.std.specs.Prelude.{◌≡◌, ◌≢◌, ◌≤◌, ◌<◌, ◌+◌, ℕ, List, [], ◌∷◌, length, Option, None, Some, MatchOption, slice_range}
use Rattle.std.specs.declared.ops.Range.{Range}
use Rattle.std.proofs.Common.{refl, sym, ap, ◌∙◌, subst, arith, length-append}
use Rattle.std.proofs.lemmas.List.Edits.{length-between}
use Rattle.asn1_core.specs.Asn1.{SEQUENCE}
use Rattle.asn1_core.specs.Der.{ElementOctets, HasNoValue, IsValueOf, element_some, head, lawful_object_identifier, object_identifier}
use Rattle.asn1_core_element.specs.declared.error.Error.{Error}
use Rattle.asn1_core_element.specs.declared.error.Error.TheVariants.{Memory}
use Rattle.asn1_leaves_strings.specs.Bits.{IsBits}
use Rattle.asn1_located.specs.Finding.{any_element, contains_element}
use Rattle.asn1_located.specs.laws.LocatedLaws.{one_walk}
use Rattle.asn1_located.specs.Places.{Begins, Follows, IsRangeAt, Walk}
use Rattle.asn1_located.specs.laws.WalkLaws.{one_after, one_inside}
use Rattle.asn1_located.specs.declared.walks.Step.TheVariants.{After, Element, Inside}
use Rattle.certificate_ranges.proofs.PartPlaces.{part_at, walk_apart}
use Rattle.certificate_ranges.specs.CertificateRoutes.{key_algorithm_identifier, key_bits, key_parameters, read_key_info}
use Rattle.certificate_ranges.specs.Certificates.{CertificateValue, KeyValue, certificate, key_element_of, key_format}
use Rattle.certificate_ranges.specs.Ranges.{HasNoPart, IsKeyAt, IsPartAt, IsPartOrNone}
use Rattle.x509_base.specs.Algorithms.{algorithm_identifier}

-- the key reads as a SubjectPublicKeyInfo, or as none
pub key_is : (v : CertificateValue) (octets : List ℕ) (k : KeyValue) → octets ≡ key_element_of v → key_format.Reads 64 octets k → read_key_info.IsPart v k
key_is v octets k e r = (key_element_of v, (v.0, refl, refl), subst (λ y. key_format.Reads 64 y k) e r)

pub no_key : (v : CertificateValue) (octets : List ℕ) (e : Error) → octets ≡ key_element_of v → HasNoValue key_format 64 octets e → e ≢ Memory → HasNoPart read_key_info v
no_key v octets e g h m k o =
    let t = o.1 in
    let same : o.0 ≡ octets = t.2 ∙ ap (λ c. c.1.1.1.1.1.1.0) t.1 ∙ sym g in
    h.none m k (subst (λ y. key_format.Reads 64 y k) same o.2)

-- no element follows an object identifier that has no parameters
none_follows : (m : ℕ) (x : List ℕ) (a : algorithm_identifier.Value) → a.1.0 ≡ None → (SEQUENCE algorithm_identifier).format.Reads 64 x a → (n : ℕ) (y : List ℕ) → Walk (Inside ∷ After ∷ Element ∷ []) m x n y → ⊥
none_follows m x (oid, (Some p, u)) e s n y w = absurd (let f : Some p ≡ None = e in cc)
none_follows m x (oid, (None, u)) e s n y w =
    let p = s.2 in
    let inside = one_inside m x w.0 (m + length (head 0x30 (length s.0))) w.1 s.0 w.2 (contains_element m 0x30 x s.0 (omega arith) s.1) in
    let follows : Follows w.0 w.1 (w.0 + length p.0) p.1 = record { element = p.0; is = any_element object_identifier.IsTag p.0 (lawful_object_identifier.element 64 p.0 oid p.3); split = inside.1 ∙ p.2; place = refl } in
    let after = one_after w.0 w.1 w.3.0 (w.0 + length p.0) w.3.1 p.1 w.3.2 follows in
    let begins : Begins w.3.0 w.3.1 w.3.3.0 w.3.3.1 = w.3.3.2 in
    omega (arith, element_some (λ _. Unit {0}) w.3.3.1 begins.is, ap length (sym begins.split ∙ after.1 ∙ p.4), length-append w.3.3.1 begins.rest)

with_parameters : (b : List ℕ) (v : CertificateValue) (k : KeyValue) (r : Range ℕ) → IsValueOf certificate 64 b v → read_key_info.IsPart v k → IsRangeAt key_parameters.steps b r.start r.end → (p : Option ElementOctets) → k.0.1.0 ≡ p → IsPartAt key_parameters b v r
with_parameters b v k r is o f (Some p) e = part_at key_parameters p (k.0, (k, o, refl), e) is (λ n y w. f)
with_parameters b v k r is o f None e =
    let a = key_algorithm_identifier.found 64 v k.0 (k, o, refl) 0 b is.reads in
    let s = walk_apart key_algorithm_identifier.steps (Inside ∷ After ∷ Element ∷ []) 0 b r.start (slice_range b r.start r.end) f.walk in
    let one = one_walk key_algorithm_identifier.steps 0 b a.0 s.0 a.1 s.1 a.2 s.2 in
    absurd (none_follows s.0 s.1 k.0 e (subst (λ x. (SEQUENCE algorithm_identifier).format.Reads 64 x k.0) one.1 a.3) r.start (slice_range b r.start r.end) s.3)

-- the steps to the parameters lead somewhere where there are parameters, and only there
pub parameters_found : (b : List ℕ) (v : CertificateValue) (k : KeyValue) (r : Option (Range ℕ)) → IsValueOf certificate 64 b v → read_key_info.IsPart v k → MatchOption r ((n : ℕ) (y : List ℕ) → Walk key_parameters.steps 0 b n y → ⊥) (λ p. IsRangeAt key_parameters.steps b p.start p.end) → IsPartOrNone key_parameters b v r
parameters_found b v k None is o f = λ w q. (let a = key_parameters.found 64 v w q 0 b is.reads in f a.0 a.1 a.2)
parameters_found b v k (Some r) is o f = with_parameters b v k r is o f k.0.1.0 refl

bits_some : (c : List ℕ) → IsBits c → 1 ≤ length c
bits_some [] h = absurd h
bits_some (u ∷ c) h = omega arith

-- a BIT STRING has a count of unused bits
has_count : (b : List ℕ) (v : CertificateValue) (c : Range ℕ) → IsPartAt key_bits b v c → c.start < c.end
has_count b v c at =
    let q = at.place.is_part in
    let r = q.1.2 in
    omega (arith, at.inside.0, length-between b c.start c.end at.inside.1, ap length at.place.reads, ap length (q.2.2 ∙ q.2.1), bits_some q.0.1.0 r.2.4.3.1)

pub key_at : (b : List ℕ) (v : CertificateValue) (c r : Range ℕ) → IsPartAt key_bits b v c → (c.start < c.end → (r.start ≡ c.start + 1) × (r.end ≡ c.end)) → IsKeyAt b v r
key_at b v c r at f =
    let h = has_count b v c at in
    let g = f h in
    record { contents = c; are_contents = at; after_count = g.0; to_the_end = g.1; ordered = omega (arith, h, g.0, g.1) }
