-- The rows of stores.
use Rattle.std.specs.Prelude.{◌≡◌, ◌≢◌, ℕ, List, [], ◌++◌, length, Option, None, Some}
use Rattle.std.specs.declared.ops.Range.{Range}
use Rattle.std.proofs.Common.{refl, sym, ap, subst, ◌∙◌, inl, inr, ⊎_elim, arith}
use Rattle.std.proofs.Math.Nat.{min-le_right}
use Rattle.asn1_core.specs.Der.{each, ElementOctets, IsValueOf, Octets, raw, within}
use Rattle.asn1_core_element.specs.declared.error.Error.TheVariants.{TooLong, Memory}
use Rattle.input_ranges.specs.declared.ranges.Refusal.{Refusal}
use Rattle.input_ranges.specs.declared.ranges.Refusal.TheVariants.{Refused, Part, NoRange}
use Rattle.located_rows.proofs.RowLaws.{range_is}
use Rattle.located_rows.specs.Rows.{IsRangeOf, LeadsTo}
use Rattle.pkcs12_bags.specs.Oids.{data_oid}
use Rattle.x509_pkcs12.specs.MacOctets.{mac_octets}
use Rattle.x509_pkcs12.specs.laws.MacOctets.{same_some}
use Rattle.x509_pkcs12.specs.MacRoutes.{mac_route}
use Rattle.x509_pkcs12.specs.Pfxs.{pfx}
use Rattle.bag_ranges.proofs.Failures.{without}
use Rattle.bag_ranges.proofs.InRanges.{part_is}
use Rattle.bag_ranges.proofs.Rows.{also}
use Rattle.bag_ranges.specs.BagRoutes.{CONTENT, SAFE, auth_safe_element, safe_in_data, store_contents}
use Rattle.bag_ranges.specs.Bags.{AreBags, BagValue, InOrder, IsIn, IsPartIn}
use Rattle.bag_ranges.specs.Contained.{LeadsIn}
use Rattle.bag_ranges.specs.Failures.{Adds, HasNoRows, HasNone, in_input}
use Rattle.bag_ranges.specs.Stores.{AreBagsOf, AreOfContent, AreOfData, AreOfSafe, AreOfStore, AreUnread, ContentValue, IsRefusal, IsStore, IsUnreadSafe, StoreValue}
use Rattle.bag_ranges.specs.declared.ranges.BagRanges.{BagRanges}

module _ (b : List ℕ) (content : ContentValue) where
  -- data have an element, which reads as an OCTET STRING around a SafeContents
  read_from : (m n : ℕ) (rows : List BagRanges) (q : AreOfData b content m n rows) → (element : ElementOctets) × (content.1.0 ≡ Some element) × (within 0x04 SAFE.format).Reads 64 element q.bags
  read_from m n rows q =
      let p = q.at.is_part in
      let own = p.1 in
      let element : content.1.0 ≡ Some p.0 = own.1 ∙ ap Some (sym own.2) in
      let bags = p.2.2 in
      (p.0, element, subst (λ vs. (within 0x04 SAFE.format).Reads 64 p.0 vs) (sym bags) p.2.1)

  pub no_data : (e : Refusal) → content.1.0 ≡ None → HasNoRows (AreOfData b content) e
  no_data e none = record { none = λ d p q. (let r = read_from p.0 p.1 p.2 q in let f : None ≡ Some r.0 = sym none ∙ r.1 in cc) }

  module _ (element : ElementOctets) (is_element : content.1.0 ≡ Some element) where
    same : (other : ElementOctets) → content.1.0 ≡ Some other → other ≡ element
    same other h = let f : Some element ≡ Some other = sym is_element ∙ h in cc

    read_as : (m n : ℕ) (rows : List BagRanges) (q : AreOfData b content m n rows) → (within 0x04 SAFE.format).Reads 64 element q.bags
    read_as m n rows q = let r = read_from m n rows q in subst (λ x. (within 0x04 SAFE.format).Reads 64 x q.bags) (same r.0 r.1) r.2

    pub not_safe_contents : (e : Refusal) → HasNone ((within 0x04 SAFE.format).Reads 64 element) e → HasNoRows (AreOfData b content) e
    not_safe_contents e n = without (λ p q. (q.bags, read_as p.0 p.1 p.2 q)) n

    module _ (bags : List BagValue) (v : IsValueOf (within 0x04 SAFE.format) 64 element bags) where
      pub safe_at : (place safe : Range ℕ) → IsIn CONTENT.format.Reads b place.start place.end content → LeadsIn safe_in_data.steps b place safe → IsPartIn safe_in_data b place.start place.end content bags safe
      safe_at place safe is leads = part_is safe_in_data b place.start place.end content is bags (element, (element, is_element, refl), (bags, v.reads, refl)) safe (leads is.inside.0 is.inside.1)

      pub are_of_data : (m n : ℕ) (safe : Range ℕ) (old new : List BagRanges) → IsPartIn safe_in_data b m n content bags safe → Adds (AreBags 65 b bags safe.start safe.end) old new → Adds (AreOfData b content m n) old new
      are_of_data m n safe old new at a = also (λ rows q. record { bags = bags; place = safe; at = at; all = q }) a

      pub no_bags_in_data : (e : Refusal) → HasNoRows (AreBags 65 b bags) e → HasNoRows (AreOfData b content) e
      no_bags_in_data e n = without (λ p q. ((q.place.start, q.place.end, p.2), subst (λ vs. AreBags 65 b vs q.place.start q.place.end p.2) (v.only q.bags (read_as p.0 p.1 p.2 q)) q.all)) n

  module _ (m n : ℕ) (is : IsIn CONTENT.format.Reads b m n content) (old new : List BagRanges) where
    pub are_data : content.0 ≡ data_oid → Adds (AreOfData b content m n) old new → Adds (AreOfContent b content m n) old new
    are_data e a = also (λ rows q. record { is = is; rows_are = inl (e, q) }) a

    pub are_other : content.0 ≢ data_oid → Adds (AreUnread m n) old new → Adds (AreOfContent b content m n) old new
    are_other e a = also (λ rows q. record { is = is; rows_are = inr (e, q) }) a

  pub no_rows_of_data : (e : Refusal) → content.0 ≡ data_oid → HasNoRows (AreOfData b content) e → HasNoRows (AreOfContent b content) e
  no_rows_of_data e is n = without (λ p q. (p, ⊎_elim (λ d. d.1) (λ o. absurd (o.0 is)) q.rows_are)) n

-- the octets in authSafe
mac_part : (store : StoreValue) (octets : Octets) → mac_route.IsPart store octets → mac_octets store ≡ Some octets
mac_part (n, (inl d, x)) octets (w, e, (u, f, (t, g, h))) =
    let same : d ≡ u = (let k : inl d ≡ inl u = sym e ∙ f in cc) in
    ap Some (same ∙ sym g ∙ sym h)
mac_part (n, (inr o, x)) octets (w, e, (u, f, rest)) = absurd (let k : inr o ≡ inl u = sym e ∙ f in cc)

is_mac_part : (store : StoreValue) (octets : Octets) → mac_octets store ≡ Some octets → mac_route.IsPart store octets
is_mac_part (n, (inl d, x)) octets e = (inl d, refl, (d, refl, (d, refl, sym (same_some d octets e))))
is_mac_part (n, (inr p, x)) octets e = absurd (let f : None ≡ Some octets = e in cc)

module _ (b : List ℕ) (store : StoreValue) (is : IsValueOf (pfx raw) 64 b store) (octets : Octets) (is_mac : mac_octets store ≡ Some octets) where
  read_safe : (rows : List BagRanges) (q : AreOfSafe b store rows) → (within 0x30 (each CONTENT.format)).Reads 64 octets q.contents
  read_safe rows q =
      let p = q.at.place.is_part in
      let same : p.0 ≡ octets = (let f : Some octets ≡ Some p.0 = sym is_mac ∙ mac_part store p.0 p.1 in cc) in
      subst (λ x. (within 0x30 (each CONTENT.format)).Reads 64 x q.contents) same (subst (λ vs. (within 0x30 (each CONTENT.format)).Reads 64 p.0 vs) (sym p.2.2) p.2.1)

  pub not_safe : (e : Refusal) → HasNone ((within 0x30 (each CONTENT.format)).Reads 64 octets) e → HasNone (AreOfSafe b store) e
  not_safe e n = without (λ rows q. (q.contents, read_safe rows q)) n

  module _ (contents : List ContentValue) (v : IsValueOf (within 0x30 (each CONTENT.format)) 64 octets contents) where
    pub no_contents : (e : Refusal) → HasNoRows (InOrder (AreOfContent b) contents) e → HasNone (AreOfSafe b store) e
    no_contents e n = without (λ rows q. ((q.place.start, q.place.end, rows), subst (λ vs. InOrder (AreOfContent b) vs q.place.start q.place.end rows) (v.only q.contents (read_safe rows q)) q.all)) n

    contents_part : store_contents.IsPart store contents
    contents_part = (octets, is_mac_part store octets is_mac, (contents, v.reads, refl))

    pub contents_at : (list : Range ℕ) → LeadsTo store_contents.steps 0 b list.start list.end → IsRangeOf store_contents 64 b store contents list.start list.end
    contents_at list leads = range_is store_contents 64 b store is.reads contents contents_part list.start list.end leads

    pub contents_in : (list : Range ℕ) → IsRangeOf store_contents 64 b store contents list.start list.end → IsIn (each CONTENT.format).Reads b list.start list.end contents
    contents_in list at = record { reads = at.place.reads; inside = at.inside }

    pub are_of_safe : (list : Range ℕ) (old new : List BagRanges) → IsRangeOf store_contents 64 b store contents list.start list.end → Adds (InOrder (AreOfContent b) contents list.start list.end) old new → Adds (AreOfSafe b store) old new
    are_of_safe list old new at a = also (λ rows q. record { contents = contents; place = list; at = at; all = q }) a

module _ (b : List ℕ) (store : StoreValue) (is : IsValueOf (pfx raw) 64 b store) where
  pub is_unread : (place : Range ℕ) (old new : List BagRanges) → LeadsTo auth_safe_element.steps 0 b place.start place.end → Adds (AreUnread place.start place.end) old new → (o : Option Octets) → o ≡ None → Adds (AreOfStore b store o) old new
  is_unread place old new leads a o none =
      let safe : Adds (IsUnreadSafe b store) old new = also (λ rows q. record { place = place; at = range_is auth_safe_element 64 b store is.reads store.1.0 refl place.start place.end leads; are = q }) a in
      subst (λ x. Adds (AreOfStore b store x) old new) (sym none) safe

  module _ (o : Option Octets) (same : o ≡ mac_octets store) where
    pub are_bags : (old rows : List BagRanges) → old ≡ [] → Adds (AreOfStore b store o) old rows → AreBagsOf b rows
    are_bags old rows none a = record {
      store = store;
      is_value = is;
      all = subst (AreOfStore b store (mac_octets store)) (sym (a.is ∙ ap (λ r. r ++ a.added) none)) (subst (λ x. AreOfStore b store x a.added) same a.all);
    }

    pub no_bags : (e : Refusal) → HasNone (AreOfStore b store o) e → HasNone (AreBagsOf b) e
    no_bags e n = without (λ rows q. (rows, subst (λ x. AreOfStore b store x rows) (sym same) (subst (λ s. AreOfStore b s (mac_octets s) rows) (is.only q.store q.is_value.reads) q.all))) n

module _ (b : List ℕ) (store : IsStore b) where
  refused_by : (e : Refusal) → HasNone (AreBagsOf b) e → IsRefusal b (in_input (length b) e)
  refused_by (Refused error place) n = (record { kind = λ m. (let x : Memory ≡ TooLong = m in cc); none = λ m. absurd (m refl) }, omega arith)
  refused_by (Part error place) n = (store, n.none (λ m. (let x : Part error place ≡ Refused Memory 0 = m in cc)), min-le_right place (length b))
  refused_by NoRange n = (store, n.none (λ m. (let x : NoRange ≡ Refused Memory 0 = m in cc)), omega arith)

pub is_refused : (b : List ℕ) (store : StoreValue) (e r : Refusal) → IsValueOf (pfx raw) 64 b store → HasNone (AreBagsOf b) e → r ≡ in_input (length b) e → IsRefusal b r
is_refused b store e r is n h = subst (IsRefusal b) (sym h) (refused_by b (record { store = store; is_value = is }) e n)
