-- A row of a table.
use Rattle.std.proofs.Common.{◌≡◌, ◌↔◌, ℕ, ◌+◌, ◌<◌, List, ◌∷◌, length, get_or, map, drop, ⊎_elim, inl, inr, refl, sym, ap, subst}
use Rattle.std.proofs.lemmas.List.{drop_more}
use Rattle.oid_names.specs.declared.tables.NamedOid.{NamedOid}
use Rattle.oid_names.specs.Tables.{row_value, IsNamed}

module _ (rows : List NamedOid) (i : ℕ) (d : NamedOid) (octets : List ℕ) (fits : i < length rows) where
  rest_is : map row_value (drop i rows) ≡ row_value (get_or rows i d) ∷ map row_value (drop (i + 1) rows)
  rest_is = ap (map row_value) (drop_more rows i d fits)

  pub row_found : ((name : List ℕ) → IsNamed (map row_value (drop i rows)) octets name → IsNamed (map row_value rows) octets name) → (get_or rows i d).octets.now ≡ octets → IsNamed (map row_value rows) octets (get_or rows i d).name.now
  row_found from e = from _ (subst (λ rs. IsNamed rs octets (get_or rows i d).name.now) (sym rest_is) (inl (sym e, refl)))

  passed : ((get_or rows i d).octets.now ≡ octets → ⊥) → (name : List ℕ) → IsNamed (map row_value (drop i rows)) octets name → IsNamed (map row_value (drop (i + 1) rows)) octets name
  passed other name h = ⊎_elim (λ p. absurd (other (sym p.0))) (λ q. q) (subst (λ rs. IsNamed rs octets name) rest_is h)

  before : (name : List ℕ) → IsNamed (map row_value (drop (i + 1) rows)) octets name → IsNamed (map row_value (drop i rows)) octets name
  before name h = subst (λ rs. IsNamed rs octets name) (sym rest_is) (inr h)

  -- another row names what the rows after it name
  pub row_passed : ((get_or rows i d).octets.now ≡ octets → ⊥) → (name : List ℕ) → IsNamed (map row_value (drop (i + 1) rows)) octets name ↔ IsNamed (map row_value (drop i rows)) octets name
  row_passed other name = (before name, passed other name)
