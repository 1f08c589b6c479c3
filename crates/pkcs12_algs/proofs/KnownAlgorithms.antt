-- Algorithms by their known object identifiers.
use Rattle.std.proofs.Common.{◌≡◌, ℕ, List, true, sym, ap, ◌∙◌, subst, inl, inr}
use Rattle.asn1_core.specs.Der.{IsOid}
use Rattle.x509_base.specs.Algorithms.{algorithm_identifier}
use Rattle.x509_base.specs.laws.AlgorithmLaws.{null_is_element}
use Rattle.x509_base.specs.AlgorithmChoices.{alternative_read}
use Rattle.pkcs12_algs.specs.Algorithms.{ListedOrRaw, listed_or_raw, from_raw, IsKnown}
use Rattle.pkcs12_algs.specs.Tables.{listing, are_oids}
use Rattle.pkcs12_algs.specs.laws.TableLaws.{one_listed, listing_is_table, valid_listed}

module _ (oids : List (List ℕ)) where
  -- a known object identifier picks its alternative
  pub known_read : (x : ListedOrRaw oids) (o : List ℕ) (v : algorithm_identifier.Value) → IsKnown oids x o → v.0 ≡ o → x ≡ from_raw oids v
  known_read (inl a) o v h e = sym (ap (λ r. alternative_read r v) (ap (listing oids).alternative_of (e ∙ sym h) ∙ (listing_is_table oids).there a))
  known_read (inr w) o v h e = absurd h

  pub same_known : (x y : ListedOrRaw oids) (o : List ℕ) → IsKnown oids x o → IsKnown oids y o → x ≡ y
  same_known (inl a) (inl b) o h i = ap inl (one_listed oids a b (h ∙ sym i))
  same_known (inl a) (inr w) o h i = absurd i
  same_known (inr v) y o h i = absurd h

  module _ (valid : are_oids oids ≡ true) where
    pub known_valid : (x : ListedOrRaw oids) (o : List ℕ) → IsKnown oids x o → IsOid o
    known_valid (inl a) o h = subst IsOid h (valid_listed oids valid a.0 a.1)
    known_valid (inr v) o h = absurd h

    pub known_formed : (k : ℕ) (x : ListedOrRaw oids) (o : List ℕ) → IsKnown oids x o → (listed_or_raw oids).format.IsWellFormed k x
    known_formed k (inl a) o h = ((valid_listed oids valid a.0 a.1, (null_is_element, tt)), tt)
    known_formed k (inr v) o h = absurd h
