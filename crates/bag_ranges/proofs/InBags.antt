-- The rows of bags, and of those in bags.
use Rattle.std.specs.Prelude.{◌≡◌, ◌≢◌, ℕ, zero, suc, ◌-◌, ◌<◌, List, [], ◌∷◌, ◌++◌}
use Rattle.std.specs.declared.ops.Range.{Range}
use Rattle.std.proofs.Common.{refl, sym, ap, subst, ◌∙◌, arith, inl, inr, ⊎_elim}
use Rattle.std.proofs.lemmas.List.{append-nil, append_assoc}
use Rattle.asn1_core.specs.Der.{IsValueOf}
use Rattle.input_ranges.specs.declared.ranges.Refusal.{Refusal}
use Rattle.pkcs12_bags.specs.Oids.{oid}
use Rattle.pkcs12_bags.specs.declared.parts.oids.TheConstants.{SAFE_CONTENTS_BAG}
use Rattle.bag_ranges.proofs.Contained.{read_as, value_is}
use Rattle.bag_ranges.proofs.Failures.{without}
use Rattle.bag_ranges.proofs.InRanges.{part_is}
use Rattle.bag_ranges.proofs.OneKind.{is_named, is_safe, kinds_agree}
use Rattle.bag_ranges.proofs.Rows.{also}
use Rattle.bag_ranges.specs.BagRoutes.{BAG, SAFE, bags_in}
use Rattle.bag_ranges.specs.Bags.{AreBags, AreInBag, AreInside, AreOfBag, BagValue, InOrder, IsBagAt, IsIn, IsKeyIdAt, IsKind, IsNameAt, IsPartIn, IsValueAt, Rows}
use Rattle.bag_ranges.specs.Contained.{IsHeld, LeadsIn, named_kind, value_steps}
use Rattle.bag_ranges.specs.Failures.{Adds, HasNoKeyId, HasNoName, HasNoRow, HasNoRows, HasNone}
use Rattle.bag_ranges.specs.Pieces.{IsElementIn}
use Rattle.bag_ranges.specs.declared.ranges.BagKind.{BagKind}
use Rattle.bag_ranges.specs.declared.ranges.BagKind.TheVariants.{SafeContents}
use Rattle.bag_ranges.specs.declared.ranges.BagRanges.{BagRanges}

module _ (below : ℕ) (b : List ℕ) (bag : BagValue) where
  pub no_kind : (e : Refusal) (k : BagKind) → IsKind k bag.0 → HasNone (IsHeld (named_kind k) bag.1.0) e → HasNoRow below b bag e
  no_kind e k is n = without (λ p q. (p.2.kind, record { agrees = kinds_agree bag.0 p.2.kind k q.kind is; reads = read_as bag b p.0 p.1 p.2.kind p.2.value q.value })) n

  pub no_name : (e : Refusal) → HasNoName bag e → HasNoRow below b bag e
  no_name e n = without (λ p q. (q.friendly_name.octets, q.friendly_name.only)) n

  pub no_key_id : (e : Refusal) → HasNoKeyId bag e → HasNoRow below b bag e
  no_key_id e n = without (λ p q. (q.local_key_id.octets, q.local_key_id.only)) n

  module _ (place : Range ℕ) (is : IsIn BAG.format.Reads b place.start place.end bag) (named : BagKind) (is_kind : IsKind named bag.0) where
    pub is_bag : (r : BagRanges) → r.element ≡ place → IsHeld (named_kind named) bag.1.0 r.kind → r.level ≡ 64 - below → LeadsIn (value_steps r.kind) b place r.value → IsNameAt b place.start place.end bag r.friendly_name → IsKeyIdAt b place.start place.end bag r.local_key_id → IsBagAt below b place.start place.end bag r
    is_bag r e held level leads name id = record {
      is = is;
      element = (ap (λ p. p.start) e, ap (λ p. p.end) e);
      kind = is_named bag.0 r.kind named held.agrees is_kind;
      level = level;
      value = value_is bag b place.start place.end is r.value r.kind held.reads leads;
      friendly_name = name;
      local_key_id = id;
    }

  -- where a bag with bags has them
  pub element_in : (m n : ℕ) (r : BagRanges) → IsBagAt below b m n bag r → IsElementIn b bag r.value
  element_in m n r q e =
      let same : r.kind ≡ SafeContents = is_safe bag.0 r.kind q.kind e in
      let value : IsValueAt b m n bag SafeContents r.value = subst (λ k. IsValueAt b m n bag k r.value) same q.value in
      value.is

module _ (All : List BagValue → Rows) (below : ℕ) (b : List ℕ) (bag : BagValue) where
  pub are_of_bag : (m n : ℕ) (old pushed new : List BagRanges) (own : BagRanges) (value : Range ℕ) → value ≡ own.value → pushed ≡ old ++ own ∷ [] → IsBagAt below b m n bag own → Adds (AreInBag All bag value.start value.end) pushed new → Adds (AreOfBag All below b bag m n) old new
  are_of_bag m n old pushed new own value v p is a = record {
    added = own ∷ a.added;
    is = a.is ∙ ap (λ rows. rows ++ a.added) p ∙ append_assoc old (own ∷ []) a.added;
    all = record { own = own; others = a.added; are = refl; is = is; inside = subst (λ r. AreInBag All bag r.start r.end a.added) v a.all };
  }

  pub no_row : (e : Refusal) → HasNoRow below b bag e → HasNoRows (AreOfBag All below b bag) e
  no_row e n = without (λ p q. ((p.0, p.1, q.own), q.is)) n

  pub no_row_inside : (e : Refusal) → HasNoRows (AreInBag All bag) e → HasNoRows (AreOfBag All below b bag) e
  no_row_inside e n = without (λ p q. ((q.own.value.start, q.own.value.end, q.others), q.inside)) n

module _ (All : List BagValue → Rows) (bag : BagValue) where
  pub none_inside : (m n : ℕ) (rows : List BagRanges) → bag.0 ≢ oid SAFE_CONTENTS_BAG → Adds (AreInBag All bag m n) rows rows
  none_inside m n rows h = record { added = []; is = sym (append-nil rows); all = inr (h, refl) }

  module _ (is : bag.0 ≡ oid SAFE_CONTENTS_BAG) where
    inside : (m n : ℕ) (rows : List BagRanges) → AreInBag All bag m n rows → AreInside All bag.1.0 m n rows
    inside m n rows h = ⊎_elim (λ q. q.1) (λ q. absurd (q.0 is)) h

    pub not_inside : (e : Refusal) → HasNone (SAFE.format.Reads 64 bag.1.0) e → HasNoRows (AreInBag All bag) e
    not_inside e n = without (λ p q. (let i = inside p.0 p.1 p.2 q in (i.bags, i.reads))) n

    module _ (bags : List BagValue) (v : IsValueOf SAFE.format 64 bag.1.0 bags) where
      pub are_inside : (m n : ℕ) (old new : List BagRanges) → Adds (All bags m n) old new → Adds (AreInBag All bag m n) old new
      are_inside m n old new a = also (λ rows q. inl (is, record { bags = bags; reads = v.reads; all = q })) a

      pub no_rows_inside : (e : Refusal) → HasNoRows (All bags) e → HasNoRows (AreInBag All bag) e
      no_rows_inside e n = without (λ p q. (let i = inside p.0 p.1 p.2 q in (p, subst (λ vs. All vs p.0 p.1 p.2) (v.only i.bags i.reads) i.all))) n

      -- its bags are there
      pub safe_in : (b : List ℕ) (place : Range ℕ) → IsElementIn b bag place → IsIn SAFE.format.Reads b place.start place.end bags
      safe_in b place element =
          let here = element is in
          record { reads = subst (λ x. SAFE.format.Reads 64 x bags) (sym here.reads.0) v.reads; inside = here.inside }

-- the bags of a SafeContents, in a level
module _ (b : List ℕ) (bags : List BagValue) where
  abbrev Level : ℕ → Rows
  Level below = InOrder (AreOfBag (AreBags below b) below b) bags

  pub list_in : (place list : Range ℕ) → IsIn SAFE.format.Reads b place.start place.end bags → LeadsIn bags_in.steps b place list → IsPartIn bags_in b place.start place.end bags bags list
  list_in place list is leads = part_is bags_in b place.start place.end bags is bags refl list (leads is.inside.0 is.inside.1)

  pub too_deep : (levels : ℕ) (e : Refusal) → levels ≡ 0 → HasNoRows (AreBags levels b bags) e
  too_deep levels e z = record { none = λ d p q. subst (λ n. AreBags n b bags p.0 p.1 p.2) z q }

  down : (levels m n : ℕ) (rows : List BagRanges) → AreBags levels b bags m n rows → (p : ℕ × ℕ × List BagRanges) × Level (levels - 1) p.0 p.1 p.2
  down zero m n rows q = absurd q
  down (suc below) m n rows q = ((q.place.start, q.place.end, rows), subst (λ l. Level l q.place.start q.place.end rows) (let same : below ≡ suc below - 1 = omega arith in same) q.all)

  up : (levels : ℕ) → 0 < levels → (m n : ℕ) (list : Range ℕ) → IsPartIn bags_in b m n bags bags list → (rows : List BagRanges) → Level (levels - 1) list.start list.end rows → AreBags levels b bags m n rows
  up zero h m n list at rows q = absurd (omega (arith, h))
  up (suc below) h m n list at rows q = record { place = list; at = at; all = subst (λ l. Level l list.start list.end rows) (let same : suc below - 1 ≡ below = omega arith in same) q }

  pub one_level : (levels m n : ℕ) (list : Range ℕ) (old new : List BagRanges) → 0 < levels → IsPartIn bags_in b m n bags bags list → Adds (Level (levels - 1) list.start list.end) old new → Adds (AreBags levels b bags m n) old new
  one_level levels m n list old new h at a = also (up levels h m n list at) a

  pub no_level : (levels : ℕ) (e : Refusal) → HasNoRows (Level (levels - 1)) e → HasNoRows (AreBags levels b bags) e
  no_level levels e n = without (λ p q. down levels p.0 p.1 p.2 q) n
