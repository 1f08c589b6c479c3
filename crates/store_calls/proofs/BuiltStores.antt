-- What a file is written of, and why it isn't.
use Rattle.std.specs.Prelude.{◌≡◌, ◌≢◌, ◌<◌, ◌^◌, ℕ, List, Option, None, Some}
use Rattle.std.proofs.Common.{ap, arith, inl, inr, refl, subst, sym, Bor, ◌∙◌}
use Rattle.std.specs.Option.{option_copied}
use Rattle.asn1_core.specs.Asn1.{SEQUENCE}
use Rattle.asn1_core.specs.Der.{IsElement, IsTagByte, Octets as OctetList, option_value, raw}
use Rattle.asn1_core_element.specs.declared.error.Error.{Error}
use Rattle.asn1_core_format.specs.Components.{AllIf}
use Rattle.asn1_borrowed.specs.Written.{IsNotWritten}
use Rattle.call_values.proofs.GivenParts.{if_some, same_part}
use Rattle.store_calls.specs.BuiltStores.{IsCountOf, IsMacOf, IsNoStore, IsSafeOf, IsStoreBy, IsWrongMac, IsWrongStore, mac_algorithm, mac_digest, mac_iterations, mac_salt, store_mac, store_safe}
use Rattle.call_values.specs.Given.{HasNone, IfGiven, IsPartOf}
use Rattle.password_calls.specs.Others.{IsOtherOf, IsWrongOther}
use Rattle.call_values.specs.Read.{HasOne, IsReadAs, IsUnreadAt, IsUnreadOf}
use Rattle.call_values.specs.declared.not_built.NotBuilt.{NotBuilt}
use Rattle.call_values.specs.declared.not_built.NotBuilt.TheVariants.{Part, Refused}
use Rattle.store_calls.specs.declared.built_stores.StoreGiven.{StoreGiven}
use Rattle.password_ranges.specs.Parameters.{AlgorithmValue}
use Rattle.pkcs12_algs.specs.Algorithms.{from_raw}
use Rattle.pkcs12_algs.specs.Digests.{digest_oids, mac_data, mac_data_value, pkcs12_digest_algorithm}
use Rattle.pkcs12_algs.specs.declared.macs.MacData.{MacData}
use Rattle.store_writers.specs.Written.{CONTENTS, store_value}
use Rattle.x509_base.specs.Algorithms.{algorithm_identifier}
use Rattle.x509_pkcs12.specs.Pfxs.{pfx}

module _ (b : List ℕ) (row : StoreGiven) where
  -- the part that can't be written
  pub wrong_algorithm : (n : ℕ) → IsWrongOther b row.digest_algorithm 2 row.has_digest_parameters row.digest_parameters 3 n × HasNone (IsOtherOf b row.digest_algorithm row.has_digest_parameters row.digest_parameters) → IsWrongMac b row n × HasNone (IsMacOf b row)
  wrong_algorithm n e = (mac_algorithm n e.0, λ v is. e.1 is.algorithm.0 is.algorithm.1)

  pub wrong_digest : (n : ℕ) → (n ≡ 4) × HasNone (IsPartOf b row.digest) → IsWrongMac b row n × HasNone (IsMacOf b row)
  wrong_digest n e = (subst (IsWrongMac b row) (sym e.0) (mac_digest e.1), λ v is. e.1 v.0.1.0 is.digest)

  pub wrong_salt : (n : ℕ) → (n ≡ 5) × HasNone (IsPartOf b row.salt) → IsWrongMac b row n × HasNone (IsMacOf b row)
  wrong_salt n e = (subst (IsWrongMac b row) (sym e.0) (mac_salt e.1), λ v is. e.1 v.1.0 is.salt)

  pub wrong_count : (n : ℕ) → (n ≡ 6) × HasNone (IsCountOf row.iterations) → IsWrongMac b row n × HasNone (IsMacOf b row)
  wrong_count n e = (subst (IsWrongMac b row) (sym e.0) (mac_iterations e.1), λ v is. e.1 v.1.1.0 is.iterations)

  pub wrong_mac : (n : ℕ) → row.has_mac ≢ 0 → IsWrongMac b row n × HasNone (IsMacOf b row) → IsUnreadOf (IsWrongStore b row) (HasOne (IfGiven row.has_mac (IsMacOf b row))) (Part n)
  wrong_mac n flag e = (store_mac n flag e.0, λ has. let mac = if_some row.has_mac (IsMacOf b row) flag has in e.1 mac.0 mac.1)

  pub wrong_range : (n : ℕ) → (n ≡ 1) × HasNone (IsPartOf b row.safe) → IsUnreadOf (IsWrongStore b row) (HasOne (IsSafeOf b row)) (Part n)
  wrong_range n e = (subst (IsWrongStore b row) (sym e.0) (store_safe (λ x is. e.1 x is.0)), λ has. e.1 has.0 has.1.0)

  safe_reads : (x : OctetList) → IsPartOf b row.safe x → (y : OctetList) → IsSafeOf b row y → IsReadAs CONTENTS.format x
  safe_reads x at y is = subst (IsReadAs CONTENTS.format) (same_part b row.safe x y at is.0) is.1

  pub wrong_safe : (x : OctetList) (w : NotBuilt) → IsPartOf b row.safe x → IsUnreadAt 1 (IsReadAs CONTENTS.format x) w → IsUnreadOf (IsWrongStore b row) (HasOne (IsSafeOf b row)) w
  wrong_safe x (Part n) at e = (subst (IsWrongStore b row) (sym e.0) (store_safe (λ y is. e.1 (safe_reads x at y is))), λ has. e.1 (safe_reads x at has.0 has.1))
  wrong_safe x (Refused e) at is = is

  -- what is given is well-formed
  algorithm_normal : (w : AlgorithmValue) → algorithm_identifier.format.normal w ≡ w
  algorithm_normal (oid, (None, u)) = refl
  algorithm_normal (oid, (Some x, u)) = refl

  other_formed : (w : AlgorithmValue) → IsOtherOf b row.digest_algorithm row.has_digest_parameters row.digest_parameters w → algorithm_identifier.format.IsWellFormed 64 w
  other_formed (oid, (None, u)) is = (is.algorithm.1, (tt, tt))
  other_formed (oid, (Some x, u)) is = (is.algorithm.1, (is.parameters_are.1.1, tt))

  algorithm_formed : (w : AlgorithmValue) → algorithm_identifier.format.IsWellFormed 64 w → pkcs12_digest_algorithm.format.IsWellFormed 64 (from_raw digest_oids w)
  algorithm_formed w formed =
      let text = algorithm_identifier.format.text w in
      let reads = subst (algorithm_identifier.format.Reads 64 text) (algorithm_normal w) (algorithm_identifier.law.text_reads 64 w formed) in
      pkcs12_digest_algorithm.law.well_formed 64 text (from_raw digest_oids w) (w, reads, refl)

  count_formed : (o : Option ℕ) → IsCountOf row.iterations o → AllIf (λ n. n < 2 ^ 32) o
  count_formed None is = tt
  count_formed (Some n) is = omega (arith, is.1.0, is.1.1)

  mac_formed : (v : mac_data.Value) → IsMacOf b row v → (SEQUENCE mac_data).format.IsWellFormed 64 v
  mac_formed v is =
      let w = is.algorithm in
      let algorithm = subst (pkcs12_digest_algorithm.format.IsWellFormed 64) (sym w.2) (algorithm_formed w.0 (other_formed w.0 w.1)) in
      ((algorithm, (tt, tt)), (tt, (count_formed v.1.1.0 is.iterations, tt)))

  mac_if_formed : (mac : Option mac_data.Value) → IfGiven row.has_mac (IsMacOf b row) mac → AllIf ((SEQUENCE mac_data).format.IsWellFormed 64) mac
  mac_if_formed None is = tt
  mac_if_formed (Some v) is = mac_formed v is.1

  safe_element : (x : OctetList) → IsReadAs CONTENTS.format x → IsElement IsTagByte x
  safe_element x (v, reads) =
      let e = CONTENTS.law.element 64 x v reads in
      record { tag = e.tag; contents = e.contents; is_tag = e.is_tag; is = e.is; allowed = e.is_tag }

  formed : (x : OctetList) (mac : Option mac_data.Value) → IsStoreBy b row x mac → (pfx raw).IsWellFormed 64 (store_value x mac)
  formed x mac is = (refl, (safe_element x is.safe_is.1, (mac_if_formed mac is.mac_is, tt)))

  pub not_built : (x : OctetList) (mac : Option mac_data.Value) (e : Error) → IsStoreBy b row x mac → IsNotWritten (pfx raw) (store_value x mac) e → IsNoStore b row (Refused e)
  not_built x mac e is (inl n) = absurd (n.1 (formed x mac is))
  not_built x mac e is (inr (inl n)) = inl (n.1, (x, mac, is, n.2))
  not_built x mac e is (inr (inr n)) = inr n

-- a MAC by its parts
pub same_mac : {A B C D : Type 0} {a e : A} {d f : B} {s t : C} (i : D) → a ≡ e → d ≡ f → s ≡ t → ◌≡◌ {A = (A × (B × Unit {0})) × (C × (D × Unit {0}))} ((a, (d, tt)), (s, (i, tt))) ((e, (f, tt)), (t, (i, tt)))
same_mac i a d s = cc

-- the MAC that is borrowed
borrowed : (o : Option (Bor MacData)) → option_value (λ m. mac_data_value m.now) o ≡ option_value mac_data_value (option_copied o)
borrowed None = refl
borrowed (Some m) = refl

pub borrowed_mac : (o : Option (Bor MacData)) (mac : Option MacData) → option_copied o ≡ mac → option_value (λ m. mac_data_value m.now) o ≡ option_value mac_data_value mac
borrowed_mac o mac e = borrowed o ∙ ap (option_value mac_data_value) e
