-- The messageDigest of a signer, by the index of its attribute.
use Rattle.std.specs.Prelude.{◌≡◌, ◌↔◌, ◌≤◌, ◌<◌, ◌+◌, ℕ, zero, suc, IsTrue, true, cond, List, [], ◌∷◌, length, drop, get_or, map, slice_get, Some}
use Rattle.std.proofs.Common.{refl, sym, ap, ◌∙◌, arith}
use Rattle.std.proofs.lemmas.List.{drop_more, drop_all}
use Rattle.std.proofs.lemmas.Slice.Eq.{bytes_eq-Decides}
use Rattle.asn1_core.specs.Der.{octets_of, Octets, OidOctets}
use Rattle.located_rows.proofs.RowLaws.{skips_to}
use Rattle.pkcs7_attributes.specs.NamedAttributes.{message_digest_oid}
use Rattle.signer_ranges.specs.Pieces.{IsDigestIndex}
use Rattle.signer_ranges.specs.SignerRoutes.{digest_in}
use Rattle.signer_ranges.specs.Signers.{Signs}
use Rattle.x509_base.specs.AttributesByOid.{with_oid}
use Rattle.x509_base.specs.Names.{attribute, attribute_value}
use Rattle.x509_base.specs.declared.names.Attribute.{Attribute}

kept : (rest : List attribute.Value) (a : attribute.Value) → a.0 ≡ message_digest_oid → with_oid message_digest_oid (a ∷ rest) ≡ a ∷ with_oid message_digest_oid rest
kept rest a e = ap (λ b. cond b (a ∷ with_oid message_digest_oid rest) (with_oid message_digest_oid rest)) ((bytes_eq-Decides a.0 message_digest_oid).1 e)

same_first : {X : Type 0} {x y : X} {xs ys : List X} → x ∷ xs ≡ y ∷ ys → x ≡ y
same_first e = cc

at_index : (xs : List Attribute) (i : ℕ) (x : Attribute) → i < length xs → x ≡ get_or xs i x → slice_get (map attribute_value xs) i ≡ Some (attribute_value x)
at_index [] i x h e = absurd (omega (arith, h))
at_index (y ∷ xs) zero x h e = ap (λ z. Some (attribute_value z)) (sym e)
at_index (y ∷ xs) (suc i) x h e = at_index xs i x (omega (arith, h)) e

module _ (xs : List Attribute) (i : ℕ) (before : with_oid message_digest_oid (map attribute_value (drop i xs)) ≡ with_oid message_digest_oid (map attribute_value xs)) where
  -- the first messageDigest
  pub is_index : (x : Attribute) → i < length xs → x ≡ get_or xs i x → (IsTrue true ↔ (octets_of x.ty.0 ≡ message_digest_oid)) → IsDigestIndex (map attribute_value xs) i
  is_index x h e f a only =
      let rest = map attribute_value (drop (i + 1) xs) in
      let cut : drop i xs ≡ x ∷ drop (i + 1) xs = drop_more xs i x h ∙ ap (λ y. y ∷ drop (i + 1) xs) (sym e) in
      let first : attribute_value x ∷ with_oid message_digest_oid rest ≡ a ∷ [] = sym (kept rest (attribute_value x) (f.0 refl)) ∙ sym (ap (λ ys. with_oid message_digest_oid (map attribute_value ys)) cut) ∙ before ∙ only in
      let same : attribute_value x ≡ a = same_first first in
      (at_index xs i x h e ∙ ap Some same, ap (λ y. y.0) (sym same) ∙ f.0 refl)

  -- there is none
  pub no_index : length xs ≤ i → (j : ℕ) → IsDigestIndex (map attribute_value xs) j
  no_index h j a only =
      let none : [] ≡ a ∷ [] = sym (ap (λ ys. with_oid message_digest_oid (map attribute_value ys)) (drop_all i xs h)) ∙ before ∙ only in
      absurd (let f : [] ≡ a ∷ [] = none in cc)

-- the digest that signed attributes have is at the index
pub digest_part : (attrs : List attribute.Value) (content_type : OidOctets) (digest : Octets) → Signs attrs content_type digest → (j : ℕ) → IsDigestIndex attrs j → (digest_in j).IsPart attrs digest
digest_part attrs content_type digest signs j is =
    let m = signs.message in
    let value = m.0 in
    let only = m.1 in
    let at = is (only.0, (value ∷ [], tt)) only.1 in
    ((only.0, (value ∷ [], tt)), skips_to attrs j (only.0, (value ∷ [], tt)) at.0, (value ∷ [], (at.1, refl), (value, ([], refl), (digest, m.2, refl))))
