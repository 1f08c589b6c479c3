-- From where steps lead from an algorithm to the places of its parts in the input.
use Rattle.std.specs.Prelude.{◌≡◌, ◌⊎◌, ℕ, List, Option, None, Some}
use Rattle.std.specs.declared.ops.Range.{Range}
use Rattle.std.proofs.Common.{refl, subst, inl, inr}
use Rattle.asn1_choices.specs.Tables.{Table}
use Rattle.asn1_core.specs.Asn1.{OCTET_STRING, SEQUENCE}
use Rattle.asn1_core.specs.Der.{Format, Octets, OidOctets}
use Rattle.asn1_core_format.specs.Whole.{IsValueOf}
use Rattle.asn1_located.specs.Places.{Reading, Route, Walk}
use Rattle.asn1_located.specs.Routes.{self, ◌▸◌}
use Rattle.located_rows.proofs.RowLaws.{leads_after, range_is}
use Rattle.password_ranges.specs.Heads.{ALGORITHM, pbkdf2_head}
use Rattle.password_ranges.specs.Holders.{AreRangesOf}
use Rattle.password_ranges.specs.Parameters.{AlgorithmValue, AreKnownOrNone, AreOfKindOrNone, AreParametersOrNone, oid_in, parameters_in}
use Rattle.password_ranges.specs.PasswordRoutes.{algorithm_oid, derivation, derivation_oid, derivation_parameters, encryption, encryption_oid, encryption_parameters, only_salt, parameters, parameters_as, pbes2, pbkdf2, pbkdf2_salt, prf_oid, vector}
use Rattle.password_ranges.specs.Passwords.{ArePasswordRanges, ArePbes2Ranges, ArePbkdf2Ranges, AreSaltRanges, IsPbes2, IsPbes2OrNone, OrNone, Pbes2Value, derivation_in, encryption_in, in_place, leading, prf_in, specified_in}
use Rattle.password_ranges.specs.SaltKinds.{pbes1_table, pkcs12_table}
use Rattle.password_ranges.specs.declared.ranges.PasswordRanges.{PasswordRanges}
use Rattle.password_ranges.specs.declared.ranges.SaltRanges.{SaltRanges}
use Rattle.password_ranges.specs.declared.ranges.Pbes2Ranges.{Pbes2Ranges}
use Rattle.password_ranges.specs.declared.ranges.Pbkdf2Ranges.{Pbkdf2Ranges}
use Rattle.pkcs12_algs.specs.Oids.{pbkdf2_oid}
use Rattle.pkcs12_algs.specs.Pbes1.{pbes1_params}

-- what holds where both are there
or_none : {X R : Type 0} {P Q : X → R → Type 0} (o : Option X) (r : Option R) → ((x : X) (s : R) → o ≡ Some x → P x s → Q x s) → OrNone P o r → OrNone Q o r
or_none None None f h = tt
or_none None (Some r) f h = absurd h
or_none (Some x) None f h = absurd h
or_none (Some x) (Some r) f h = f x r refl h

specified_is : (s : Octets ⊎ AlgorithmValue) (x : Octets) → specified_in s ≡ Some x → s ≡ inl x
specified_is (inl y) x e = let f : Some y ≡ Some x = e in cc
specified_is (inr a) x e = absurd (let f : None ≡ Some x = e in cc)

prf_is : (o : Option AlgorithmValue) (x : OidOctets) → prf_in o ≡ Some x → (a : AlgorithmValue) × (o ≡ Some a) × (x ≡ oid_in a)
prf_is None x e = absurd (let f : None ≡ Some x = e in cc)
prf_is (Some a) x e = (a, refl, (let f : Some (oid_in a) ≡ Some x = e in cc))

-- parameters that an algorithm has are a part of it
are_part : {P : Type 0} (G : Format P) (w : AlgorithmValue) (o : Option P) → AreParametersOrNone G w o → (p : P) → o ≡ Some p → (parameters_as G).IsPart w p
are_part G w None are p e = absurd (let f : None ≡ Some p = e in cc)
are_part G w (Some q) are p e = let same : q ≡ p = (let f : Some q ≡ Some p = e in cc) in (are.element, are.is_element, subst (λ z. G.Reads 64 are.element z) same are.reads.reads)

are_known_part : {P : Type 0} (oid : OidOctets) (G : Format P) (w : AlgorithmValue) (o : Option P) → AreKnownOrNone oid G w o → (p : P) → o ≡ Some p → (parameters_as G).IsPart w p
are_known_part oid G w None are p e = absurd (let f : None ≡ Some p = e in cc)
are_known_part oid G w (Some q) are p e = are_part G w (Some q) are.1 p e

are_kind_part : {A P : Type 0} (T : Table A) (G : Format P) (w : AlgorithmValue) (o : Option P) → AreOfKindOrNone T G w o → (p : P) → o ≡ Some p → (parameters_as G).IsPart w p
are_kind_part T G w None are p e = absurd (let f : None ≡ Some p = e in cc)
are_kind_part T G w (Some q) are p e = are_part G w (Some q) are.2 p e

is_oid : (a : AlgorithmValue) → algorithm_oid.IsPart a (oid_in a)
is_oid a = (oid_in a, refl, refl)

module _ {V : Type 0} {F : Format V} (holder : Route F.Reads ALGORITHM.format.Reads) (b : List ℕ) (v : V) (is : IsValueOf F 64 b v) (w : AlgorithmValue) (holds : holder.IsPart v w) (m : ℕ) (x : List ℕ) (walk : Walk holder.steps 0 b m x) where
  moved : {X : Type 0} {S : Reading X} (route : Route ALGORITHM.format.Reads S) (y : X) → route.IsPart w y → (r : Range ℕ) → leading m x X S route y r → in_place holder b v X S route y r
  moved {X} {S} route y part r leads = range_is (holder ▸ route) 64 b v is.reads y (w, holds, part) r.start r.end (leads_after holder.steps route.steps 0 b m x walk r.start r.end leads)

  moved_if : {X : Type 0} {S : Reading X} (route : Route ALGORITHM.format.Reads S) (o : Option X) → ((y : X) → o ≡ Some y → route.IsPart w y) → (r : Option (Range ℕ)) → OrNone (leading m x X S route) o r → OrNone (in_place holder b v X S route) o r
  moved_if {X} {S} route o part r h = or_none o r (λ y s e leads. moved route y (part y e) s leads) h

  salt_moved : {A : Type 0} (T : Table A) (o : Option pbes1_params.Value) → AreOfKindOrNone T (SEQUENCE pbes1_params).format w o → (r : Option SaltRanges) → OrNone (AreSaltRanges (leading m x)) o r → OrNone (AreSaltRanges (in_place holder b v)) o r
  salt_moved T o are r h = or_none o r
      (λ p s e led. record {
        salt_at = moved only_salt p.0 (p, are_kind_part T (SEQUENCE pbes1_params).format w o are p e, (p.0, refl, refl)) s.salt led.salt_at;
        iterations = led.iterations;
      })
      h

  module _ (s : Pbes2Value) (known : IsPbes2 w s) where
    are_params : pbes2.IsPart w s.params
    are_params = (known.are_params.1.element, known.are_params.1.is_element, known.are_params.1.reads.reads)

    is_derivation : derivation.IsPart w (derivation_in s)
    is_derivation = (s.params, are_params, refl)

    is_encryption : encryption.IsPart w (encryption_in s)
    is_encryption = (s.params, are_params, refl)

    is_pbkdf2 : (k : pbkdf2_head.Value) → s.pbkdf2 ≡ Some k → pbkdf2.IsPart w k
    is_pbkdf2 k e = (derivation_in s, is_derivation, are_known_part pbkdf2_oid (SEQUENCE pbkdf2_head).format (derivation_in s) s.pbkdf2 known.is_pbkdf2 k e)

    pbkdf2_moved : (r : Option Pbkdf2Ranges) → OrNone (ArePbkdf2Ranges (leading m x)) s.pbkdf2 r → OrNone (ArePbkdf2Ranges (in_place holder b v)) s.pbkdf2 r
    pbkdf2_moved r h = or_none s.pbkdf2 r
        (λ k t e led. record {
          salt_at = moved_if pbkdf2_salt (specified_in k.0) (λ y f. (k, is_pbkdf2 k e, (k.0, refl, (y, specified_is k.0 y f, refl)))) t.salt led.salt_at;
          iterations = led.iterations;
          key_length = led.key_length;
          prf_at = moved_if prf_oid (prf_in k.1.1.1.0) (λ y f. (let g = prf_is k.1.1.1.0 y f in (g.0, (k, is_pbkdf2 k e, g.1), (oid_in g.0, refl, g.2)))) t.prf led.prf_at;
        })
        h

    pbes2_moved : (r : Pbes2Ranges) → ArePbes2Ranges (leading m x) s r → ArePbes2Ranges (in_place holder b v) s r
    pbes2_moved r led = record {
      derivation_at = moved derivation_oid (oid_in (derivation_in s)) (derivation_in s, is_derivation, is_oid (derivation_in s)) r.derivation led.derivation_at;
      derivation_parameters_at = moved_if derivation_parameters (parameters_in (derivation_in s)) (λ y e. (derivation_in s, is_derivation, e)) r.derivation_parameters led.derivation_parameters_at;
      pbkdf2_at = pbkdf2_moved r.pbkdf2 led.pbkdf2_at;
      encryption_at = moved encryption_oid (oid_in (encryption_in s)) (encryption_in s, is_encryption, is_oid (encryption_in s)) r.encryption led.encryption_at;
      encryption_parameters_at = moved_if encryption_parameters (parameters_in (encryption_in s)) (λ y e. (encryption_in s, is_encryption, e)) r.encryption_parameters led.encryption_parameters_at;
      vector_at = moved_if vector s.vector (λ y e. (encryption_in s, is_encryption, (y, are_part OCTET_STRING.format (encryption_in s) s.vector known.is_vector y e, refl))) r.initialization_vector led.vector_at;
    }

  pbes2_moved_if : (o : Option Pbes2Value) → IsPbes2OrNone w o → (r : Option Pbes2Ranges) → OrNone (ArePbes2Ranges (leading m x)) o r → OrNone (ArePbes2Ranges (in_place holder b v)) o r
  pbes2_moved_if None known None h = tt
  pbes2_moved_if None known (Some r) h = absurd h
  pbes2_moved_if (Some s) known None h = absurd h
  pbes2_moved_if (Some s) known (Some r) h = pbes2_moved s known r h

  -- all parts of the algorithm w, which is at m
  pub all_moved : (r : PasswordRanges) → ArePasswordRanges (leading m x) w r → ArePasswordRanges (in_place holder b v) w r
  all_moved r led = record {
    algorithm_at = moved algorithm_oid (oid_in w) (is_oid w) r.algorithm led.algorithm_at;
    parameters_at = moved_if parameters (parameters_in w) (λ y e. e) r.parameters led.parameters_at;
    pbes1 = led.pbes1;
    is_pbes1 = led.is_pbes1;
    pbes1_at = salt_moved pbes1_table led.pbes1 led.is_pbes1 r.pbes1 led.pbes1_at;
    pkcs12 = led.pkcs12;
    is_pkcs12 = led.is_pkcs12;
    pkcs12_at = salt_moved pkcs12_table led.pkcs12 led.is_pkcs12 r.pkcs12 led.pkcs12_at;
    pbes2 = led.pbes2;
    is_pbes2 = led.is_pbes2;
    pbes2_at = pbes2_moved_if led.pbes2 led.is_pbes2 r.pbes2 led.pbes2_at;
  }

pub are_ranges : (b : List ℕ) (w : AlgorithmValue) → IsValueOf ALGORITHM.format 64 b w → (r : PasswordRanges) → ArePasswordRanges (leading 0 b) w r → AreRangesOf b r
are_ranges b w is r led = record { value = w; is_value = is; are = all_moved (self {V = AlgorithmValue} {R = ALGORITHM.format.Reads}) b w is w refl 0 b (refl, refl) r led }
