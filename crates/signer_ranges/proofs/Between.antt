-- What is between the algorithms of a signer: signed attributes, an empty set of them, or nothing (RFC 5652, 5.3).
use Rattle.std.specs.Prelude.{◌≡◌, ◌≢◌, ◌⊎◌, ◌≤◌, ◌+◌, ℕ, List, [], ◌∷◌, ◌++◌, length, slice_get, Some}
use Rattle.std.proofs.Common.{refl, sym, ap, ◌∙◌, subst, inl, inr, arith, length-append}
use Rattle.asn1_core.specs.Asn1.{ComponentTypes, end, ◌then◌, ◌DEFAULT◌, INTEGER_BELOW, OCTET_STRING, SEQUENCE}
use Rattle.asn1_core.specs.Der.{begins_next, each, element_same, element_some, Format, IsLawful, IsLawfulComponents, NextIs, next_distinct, octets_short, part, within}
use Rattle.asn1_core_element.specs.Element.{element, head}
use Rattle.asn1_core_element.specs.laws.ElementLaws.{elements_cut}
use Rattle.asn1_core_format.specs.laws.Formats.{text_some}
use Rattle.asn1_located.specs.Finding.{Found, begins_part, follows_part}
use Rattle.asn1_located.specs.laws.Finding.{first_step}
use Rattle.asn1_located.specs.laws.LocatedLaws.{one_walk}
use Rattle.asn1_located.specs.Places.{Begins, Follows, HasFirst, Reading, Route, Walk}
use Rattle.asn1_located.specs.Routes.{into, ◌▸◌}
use Rattle.asn1_located.specs.laws.WalkLaws.{walk_on}
use Rattle.asn1_located.specs.declared.walks.Step.{Step}
use Rattle.asn1_located.specs.declared.walks.Step.TheVariants.{Inside, Element, After, Past}
use Rattle.located_rows.proofs.RowLaws.{skips_to, walk_apart}
use Rattle.located_rows.proofs.RowSteps.{one_after}
use Rattle.located_rows.specs.Rows.{LeadsTo}
use Rattle.pkcs7_attributes.specs.Attributes.{attributes, no_attributes}
use Rattle.pkcs7_signed_crl.specs.SignerParts.{signer_identifier}
use Rattle.signer_ranges.specs.SignerRoutes.{ALGORITHM, SIGNER, digest_algorithm, signature_algorithm, signed_attributes, signer}
use Rattle.signer_ranges.specs.SignerRows.{HasNoSet, HasSet}
use Rattle.signer_ranges.specs.Signers.{FileValue, SignerValue, digest_algorithm_of, signed_file, signed_of, signers_of}
use Rattle.signer_ranges.specs.declared.parts.SignerRow.{SignerRow}
use Rattle.x509_base.specs.Names.{attribute}
use Rattle.x509_pkcs7.specs.RawSigners.{SIGNED_ATTRIBUTES, UNSIGNED_ATTRIBUTES, raw_signer_info}

-- the empty set has no values
pub only_none : {V : Type 0} (tag : ℕ) (F : Format V) → IsLawful F → (j : ℕ) (vs : List V) → (within tag (each F)).Reads j (element tag []) vs → vs ≡ []
only_none tag F f j [] r = refl
only_none tag F f j (v ∷ vs) r =
    let e = element_same tag tag [] r.0 r.1 in
    let t = r.2 in
    let l = text_some F f j t.0 v t.3 in
    absurd (omega (arith, l, ap length e.1, ap length t.2, length-append t.0 t.1))

no_attributes_are : (j : ℕ) (vs : List attribute.Value) → attributes.format.Reads j no_attributes vs → vs ≡ []
no_attributes_are j vs r = only_none 0xA0 (SEQUENCE attribute).format (SEQUENCE attribute).law j vs r

begins_at : (m : ℕ) (x : List ℕ) (n : ℕ) (y : List ℕ) → Walk (Element ∷ []) m x n y → Begins m x n y
begins_at m x n y (l, z, f, s) = subst (λ j. Begins m x j y) (sym s.0) (subst (λ u. Begins m x l u) (sym s.1) f)

next_to : (m : ℕ) (x : List ℕ) (n : ℕ) (y : List ℕ) (l : ℕ) (z : List ℕ) → Begins m x n y → Follows m x l z → l ≡ n + length y
next_to m x n y l z b f =
    let c = elements_cut (λ _. Unit {0}) (λ _. Unit {0}) y f.element b.rest z b.is f.is (sym b.split ∙ f.split) in
    omega (arith, b.place, f.place, ap length c.0)

-- what follows an element begins where it ends
adjacent : (p : List Step) (m : ℕ) (x : List ℕ) (n : ℕ) (y : List ℕ) (l : ℕ) (z : List ℕ) → Walk (p ++ Element ∷ []) m x n y → Walk (p ++ After ∷ []) m x l z → l ≡ n + length y
adjacent p m x n y l z v w =
    let a = walk_apart p (Element ∷ []) m n x y v in
    let c = walk_apart p (After ∷ []) m l x z w in
    let o = one_walk p m x a.0 c.0 a.1 c.1 a.2 c.2 in
    let b : Begins c.0 c.1 n y = subst (λ j. Begins j c.1 n y) o.0 (subst (λ u. Begins a.0 u n y) o.1 (begins_at a.0 a.1 n y a.3)) in
    next_to c.0 c.1 n y l z b (one_after c.0 c.1 l z c.3)

-- past a component
past_one : {V W : Type 0} (F : Format V) (R : Format W) → IsLawful F → (k m : ℕ) (x : List ℕ) (p : V × W) (steps : List Step) (B : List ℕ → Type 0) → (part F R).Reads k x p → ((n : ℕ) (y : List ℕ) → R.Reads k y p.1 → Found steps n y B) → Found (After ∷ steps) m x B
past_one F R f k m x p steps B s next = first_step After steps m (m + length s.0) x s.1 B (follows_part F R f k m x p s) (next (m + length s.0) s.1 s.4)

-- the components of a signer from the signature algorithm on, and from the signed attributes on
abbrev REST : ComponentTypes
REST = ALGORITHM then OCTET_STRING then UNSIGNED_ATTRIBUTES DEFAULT end

abbrev ON : ComponentTypes
ON = SIGNED_ATTRIBUTES DEFAULT REST

rest_law : IsLawfulComponents REST.format
rest_law = REST.law refl

on_found : (k m : ℕ) (x : List ℕ) (s : SignerValue) → SIGNER.format.Reads k x s → Found (Inside ∷ After ∷ After ∷ After ∷ []) m x (λ u. ON.format.Reads k u s.1.1.1)
on_found k m x s r =
    let B : List ℕ → Type 0 = λ u. ON.format.Reads k u s.1.1.1 in
    into 0x30 (omega arith) raw_signer_info.format k m x s (After ∷ After ∷ After ∷ []) B
    (λ n y t. past_one (INTEGER_BELOW 6).format (part signer_identifier.format (part ALGORITHM.format ON.format)) (INTEGER_BELOW 6).law k n y s (After ∷ After ∷ []) B t
    (λ o z u. past_one signer_identifier.format (part ALGORITHM.format ON.format) signer_identifier.law k o z s.1 (After ∷ []) B u
    (λ p w e. past_one ALGORITHM.format ON.format ALGORITHM.law k p w s.1.1 [] B e (λ q g h. (q, g, (refl, refl), h)))))
    r

first_is : (tag : ℕ) (x : List ℕ) → NextIs (λ t. t ≡ tag) x → HasFirst tag x
first_is tag [] h = absurd h
first_is tag (t ∷ x) h = (x, ap (λ u. u ∷ x) h)

no_set_first : (k : ℕ) (u : List ℕ) (w : REST.Value) → REST.format.Reads k u w → HasFirst 0xA0 u → ⊥
no_set_first k u w r h = next_distinct (λ t. t ≡ 0xA0) REST.format.IsTag u (λ t a c. omega (arith, a, c)) (subst (NextIs (λ t. t ≡ 0xA0)) (sym h.1) refl) (rest_law.begins k u w r)

empty_is : element 0xA0 [] ≡ 0xA0 ∷ 0x00 ∷ []
unfolding head
empty_is = ap (λ t. 0xA0 ∷ (t ++ [])) (octets_short 0 (omega arith))

module _ (b : List ℕ) (v : FileValue) (reads : signed_file.Reads 64 b v) (i : ℕ) (s : SignerValue) (is : slice_get (signers_of v) i ≡ Some s) where
  signer_part : (signer i).IsPart v s
  signer_part = (v.1.0, (v.1.0, refl, refl), (signers_of v, refl, skips_to (signers_of v) i s is))

  -- a part of the signer is a part of the file
  pub of_signer : {W : Type 0} {S : Reading W} (route : Route SIGNER.format.Reads S) (w : W) → route.IsPart s w → (signer i ▸ route).IsPart v w
  of_signer route w o = (s, signer_part, o)

  pub attributes_given : signed_of s ≢ [] → signed_attributes.IsPart s (signed_of s)
  attributes_given some = (refl, λ j r. some (no_attributes_are j (signed_of s) r))

  abbrev to_digest : List Step
  to_digest = (signer i).steps ++ Inside ∷ After ∷ After ∷ []

  -- what the components from the signed attributes on are read from
  on_there : (l : ℕ) × (u : List ℕ) × Walk (to_digest ++ After ∷ []) 0 b l u × ON.format.Reads 64 u s.1.1.1
  on_there =
      let a = (signer i).found 64 v s signer_part 0 b reads in
      let f = on_found 64 a.0 a.1 s a.3 in
      (f.0, f.1, walk_on (signer i).steps (Inside ∷ After ∷ After ∷ After ∷ []) 0 a.0 f.0 b a.1 f.1 a.2 f.2, f.3)

  module _ (row : SignerRow) (digest_at : LeadsTo (signer i ▸ digest_algorithm).steps 0 b row.digest_algorithm.start row.digest_algorithm.end) (attributes_at : LeadsTo (signer i ▸ signed_attributes).steps 0 b row.attributes.start row.attributes.end) (algorithm_at : LeadsTo (signer i ▸ signature_algorithm).steps 0 b row.signature_algorithm.start row.signature_algorithm.end) where
    ends_there : row.digest_algorithm.end ≡ on_there.0
    ends_there =
        let d = (signer i ▸ digest_algorithm).found 64 v (digest_algorithm_of s) (of_signer digest_algorithm (digest_algorithm_of s) refl) 0 b reads in
        let e = digest_at d.0 d.1 d.2 in
        let t = adjacent to_digest 0 b d.0 d.1 on_there.0 on_there.1 d.2 on_there.2 in
        omega (arith, e.1, t)

    module _ (l : ℕ) (u : List ℕ) (walk : Walk (to_digest ++ After ∷ []) 0 b l u) where
      set_from : (n : ℕ) (y : List ℕ) → Walk (Element ∷ []) l u n y → (row.attributes.start ≡ n) × (row.attributes.end ≡ n + length y)
      set_from n y w = attributes_at n y (walk_on (to_digest ++ After ∷ []) (Element ∷ []) 0 l n b u y walk w)

      algorithm_from : (n : ℕ) (y : List ℕ) → Walk (Past 0xA0 ∷ Element ∷ []) l u n y → (row.signature_algorithm.start ≡ n) × (row.signature_algorithm.end ≡ n + length y)
      algorithm_from n y w = algorithm_at n y (walk_on (to_digest ++ After ∷ []) (Past 0xA0 ∷ Element ∷ []) 0 l n b u y walk w)

      no_set : attributes.format.Reads 64 no_attributes (signed_of s) → REST.format.Reads 64 u s.1.1.1.1 → (row.attributes.start ≡ l) × HasNoSet s row
      no_set d r =
          let begins = begins_part ALGORITHM.format (OCTET_STRING then UNSIGNED_ATTRIBUTES DEFAULT end).format ALGORITHM.law 64 l u s.1.1.1.1 r in
          let a = set_from l r.0 (l, r.0, begins, (refl, refl)) in
          let g = algorithm_from l r.0 (l, u, inr (no_set_first 64 u s.1.1.1.1 r, (refl, refl)), (l, r.0, begins, (refl, refl))) in
          (a.0, record { none = no_attributes_are 64 (signed_of s) d; same = g.0 ∙ sym a.0 })

      module _ (r : (part attributes.format REST.format).Reads 64 u s.1.1.1) where
        set_walk : Walk (Element ∷ []) l u l r.0
        set_walk = (l, r.0, begins_part attributes.format REST.format attributes.law 64 l u s.1.1.1 r, (refl, refl))

        long : 2 ≤ length r.0
        long = element_some attributes.format.IsTag r.0 (attributes.law.element 64 r.0 (signed_of s) r.3)

        is_empty : signed_of s ≡ [] → r.0 ≡ 0xA0 ∷ 0x00 ∷ []
        is_empty none =
            let e = subst (attributes.format.Reads 64 r.0) none r.3 in
            e.1 ∙ ap (element 0xA0) e.2 ∙ empty_is

        a_set : (row.attributes.start ≡ l) × HasSet b i s row
        a_set =
            let first = first_is 0xA0 u (begins_next attributes.format.IsTag r.0 r.1 u (attributes.law.element 64 r.0 (signed_of s) r.3) r.2) in
            let a = set_from l r.0 set_walk in
            let rest = r.4 in
            let begins = begins_part ALGORITHM.format (OCTET_STRING then UNSIGNED_ATTRIBUTES DEFAULT end).format ALGORITHM.law 64 (l + length r.0) r.1 s.1.1.1.1 rest in
            let g = algorithm_from (l + length r.0) rest.0 (l + length r.0, r.1, inl (first, follows_part attributes.format REST.format attributes.law 64 l u s.1.1.1 r), (l + length r.0, rest.0, begins, (refl, refl))) in
            let there : Walk (signer i ▸ signed_attributes).steps 0 b l r.0 = walk_on (to_digest ++ After ∷ []) (Element ∷ []) 0 l l b u r.0 walk set_walk in (
              a.0,
              record {
                after = omega (arith, a.1, g.0);
                some = omega (arith, a.0, a.1, long);
                empty = λ none. (
                  omega (arith, a.0, a.1, ap length (is_empty none)),
                  subst (λ n. Walk (signer i ▸ signed_attributes).steps 0 b n (0xA0 ∷ 0x00 ∷ [])) (sym a.0) (subst (λ y. Walk (signer i ▸ signed_attributes).steps 0 b l y) (is_empty none) there),
                );
              },
            )

      between_from : ON.format.Reads 64 u s.1.1.1 → (row.attributes.start ≡ l) × (HasNoSet s row ⊎ HasSet b i s row)
      between_from (inl d) = let n = no_set d.0 d.1 in (n.0, inl n.1)
      between_from (inr r) = let n = a_set r in (n.0, inr n.1)

    -- the row says what is between the algorithms
    pub are_between : (row.attributes.start ≡ row.digest_algorithm.end) × (HasNoSet s row ⊎ HasSet b i s row)
    are_between =
        let f = between_from on_there.0 on_there.1 on_there.2 on_there.3 in
        (f.0 ∙ sym ends_there, f.1)
