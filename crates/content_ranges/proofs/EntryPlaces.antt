-- The entries of a trust list.
use Rattle.std.specs.Prelude.{◌≡◌, ◌≢◌, ◌+◌, ℕ, List, [], ◌∷◌, ◌++◌, length, get_or, slice_get, Option, None, Some, Result, Ok, Err, MatchResult}
use Rattle.std.specs.declared.ops.Range.{Range}
use Rattle.std.proofs.Common.{refl, sym, ap, ◌∙◌, subst, arith, length-append}
use Rattle.asn1_core.specs.Asn1.{SEQUENCE}
use Rattle.asn1_core.specs.Der.{element_some, head, lawful_octet_string, octet_string}
use Rattle.asn1_core_element.specs.declared.error.Error.{Error}
use Rattle.asn1_core_element.specs.declared.error.Error.TheVariants.{Memory}
use Rattle.asn1_located.specs.Finding.{any_element, contains_element}
use Rattle.asn1_located.specs.laws.LocatedLaws.{one_walk}
use Rattle.asn1_located.specs.Places.{Begins, Follows, Reading, Route, Walk}
use Rattle.asn1_located.specs.Routes.{again, fixed, ◌▸◌}
use Rattle.asn1_located.specs.laws.WalkLaws.{one_after, one_inside, walk_on}
use Rattle.asn1_located.specs.declared.walks.Step.{Step}
use Rattle.asn1_located.specs.declared.walks.Step.TheVariants.{Element, Nth}
use Rattle.content_ranges.specs.Contents.{HasContent, IsPartAt, IsPartOrNone, in_content}
use Rattle.content_ranges.specs.TrustHeads.{ATTRIBUTES, trusted_subject}
use Rattle.content_ranges.specs.TrustLists.{AreEntriesOf, IsEntryAt, entries_of, subjects_of}
use Rattle.content_ranges.specs.TrustParts.{IsEntryRow, LeadsOrNowhere}
use Rattle.content_ranges.specs.TrustRoutes.{TrustValue, attributes, identifier, subject_at, subjects, trust_list}
use Rattle.content_ranges.specs.declared.ranges.EntryRanges.{EntryRanges}
use Rattle.located_rows.proofs.RowLaws.{as_many, has_list, leads_after, only_memory, range_is, skips_to, walk_apart}
use Rattle.located_rows.specs.Rows.{AreRows, HasNoList, LeadsTo}
use Rattle.pkcs7_content.specs.Oids.{trust_list_oid}
use Rattle.signer_ranges.specs.SignerRoutes.{content_element}
use Rattle.signer_ranges.specs.Signers.{FileValue, content_info_of}

-- where a walk ends is the range to which its steps lead
leads_there : (steps : List Step) (m : ℕ) (x : List ℕ) (n : ℕ) (y : List ℕ) → Walk steps m x n y → (end : ℕ) → end ≡ n + length y → LeadsTo steps m x n end
leads_there steps m x n y walk end e o z w = let one = one_walk steps m x n o y z walk w in (one.0, omega (arith, e, one.0, ap length one.1))

-- nothing follows the identifier of an entry without attributes
nothing_follows : (m : ℕ) (x : List ℕ) (s : trusted_subject.Value) → s.1.0 ≡ None → (SEQUENCE trusted_subject).format.Reads 64 x s → (n : ℕ) (y : List ℕ) → Walk attributes.steps m x n y → ⊥
nothing_follows m x (id, (Some a, u)) e s n y w = absurd (let f : Some a ≡ None = e in cc)
nothing_follows m x (id, (None, u)) e s n y w =
    let p = s.2 in
    let inside = one_inside m x w.0 (m + length (head 0x30 (length s.0))) w.1 s.0 w.2 (contains_element m 0x30 x s.0 (omega arith) s.1) in
    let follows : Follows w.0 w.1 (w.0 + length p.0) p.1 = record { element = p.0; is = any_element octet_string.IsTag p.0 (lawful_octet_string.element 64 p.0 id p.3); split = inside.1 ∙ p.2; place = refl } in
    let after = one_after w.0 w.1 w.3.0 (w.0 + length p.0) w.3.1 p.1 w.3.2 follows in
    let begins : Begins w.3.0 w.3.1 w.3.3.0 w.3.3.1 = w.3.3.2 in
    omega (arith, element_some (λ _. Unit {0}) w.3.3.1 begins.is, ap length (sym begins.split ∙ after.1 ∙ p.4), length-append w.3.3.1 begins.rest)

-- reading at 64 levels, and at no others
abbrev at_64 : {V : Type 0} → Reading V → Reading V
at_64 R k b v = (k ≡ 64) × R 64 b v

-- a route to what is read at 64 levels, of what is
abbrev fixed_route : {V W : Type 0} {R : Reading V} {S : Reading W} → Route R (fixed S) → Route (at_64 R) S
fixed_route {V} {W} {R} {S} route = record {
  steps = route.steps;
  IsPart = route.IsPart;
  found = λ k v w o m x s. (let f = route.found 64 v w o m x s.1 in (f.0, f.1, f.2, subst (λ j. S j f.1 w) (sym s.0) f.3));
}

module _ (b : List ℕ) (v : FileValue) (w : TrustValue) (has : HasContent trust_list_oid trust_list b v w) (entries : List trusted_subject.Value) (some : subjects_of w ≡ Some entries) where
  element_part : content_element.IsPart v has.element
  element_part = (v.1.0, (v.1.0, refl, refl), (content_info_of v, refl, (has.element, has.has.is_element, refl)))

  list_part : (in_content trust_list subjects).IsPart v entries
  list_part = (has.element, element_part, (w, has.reads.reads, (entries, some, refl)))

  abbrev to_entries : List Step
  to_entries = (in_content trust_list subjects).steps

  module _ (i n : ℕ) (y : List ℕ) (walk : Walk (to_entries ++ Nth i ∷ []) 0 b n y) (row : EntryRanges) (r : IsEntryRow n y row) (s : trusted_subject.Value) (is : slice_get entries i ≡ Some s) where
    entry_part : {X : Type 0} {S : Reading X} (part : Route (SEQUENCE trusted_subject).format.Reads S) (x : X) → part.IsPart s x → (in_content trust_list (subject_at i ▸ again part)).IsPart v x
    entry_part part x o = (has.element, element_part, (w, has.reads.reads, (s, (entries, (entries, some, refl), skips_to entries i s is), o)))

    abbrev before : List Step
    before = to_entries ++ Nth i ∷ []

    identifier_is : IsPartAt trust_list (subject_at i ▸ again identifier) b v s.0 row.identifier
    identifier_is =
        range_is (in_content trust_list (subject_at i ▸ again identifier)) 64 b v has.has.is_value.reads s.0 (entry_part identifier s.0 (s.0, refl, refl)) row.identifier.start row.identifier.end
        (leads_after before (Element ∷ identifier.steps) 0 b n y walk row.identifier.start row.identifier.end r.identifier_leads)

    -- where an entry has no attributes, nothing follows its identifier
    none_there : s.1.0 ≡ None → (o : ℕ) (z : List ℕ) → Walk (Element ∷ attributes.steps) n y o z → ⊥
    none_there none o z last =
        let at = in_content trust_list (subject_at i) in
        let f = at.found 64 v s (has.element, element_part, (w, has.reads.reads, (entries, (entries, some, refl), skips_to entries i s is))) 0 b has.has.is_value.reads in
        let all : Walk (at.steps ++ attributes.steps) 0 b o z = walk_on before (Element ∷ attributes.steps) 0 n o b y z walk last in
        let two = walk_apart at.steps attributes.steps 0 o b z all in
        let one = one_walk at.steps 0 b two.0 f.0 two.1 f.1 two.2 f.2 in
        nothing_follows f.0 f.1 s none f.3 o z (subst (λ j. Walk attributes.steps j f.1 o z) one.0 (subst (λ u. Walk attributes.steps two.0 u o z) one.1 two.3))

    attributes_are : (a : Option ATTRIBUTES.Value) → s.1.0 ≡ a → (range : Option (Range ℕ)) → LeadsOrNowhere (Element ∷ attributes.steps) n y range → IsPartOrNone trust_list (subject_at i ▸ again attributes) b v a range
    attributes_are None e None led = tt
    attributes_are None e (Some range) led = none_there e range.start led.0 led.1
    attributes_are (Some a) e None led =
        let route = in_content trust_list (subject_at i ▸ again attributes) in
        let f = route.found 64 v a (entry_part attributes a e) 0 b has.has.is_value.reads in
        let two = walk_apart before (Element ∷ attributes.steps) 0 f.0 b f.1 f.2 in
        let one = one_walk before 0 b two.0 n two.1 y two.2 walk in
        led f.0 f.1 (subst (λ j. Walk (Element ∷ attributes.steps) j y f.0 f.1) one.0 (subst (λ u. Walk (Element ∷ attributes.steps) two.0 u f.0 f.1) one.1 two.3))
    attributes_are (Some a) e (Some range) led =
        range_is (in_content trust_list (subject_at i ▸ again attributes)) 64 b v has.has.is_value.reads a (entry_part attributes a e) range.start range.end
        (leads_after before (Element ∷ attributes.steps) 0 b n y walk range.start range.end (leads_there (Element ∷ attributes.steps) n y range.start led.0 led.1 range.end led.2))

    entry_is : IsEntryAt b v i s row
    entry_is = record { identifier_at = identifier_is; attributes_at = attributes_are s.1.0 refl row.attributes r.attributes_lead }

  entries_are : (rows : List EntryRanges) → AreRows IsEntryRow to_entries 0 b rows → AreEntriesOf b v w rows
  entries_are rows a = record {
    each = λ i less d s e. (let at = a.each i less d in entry_is i at.0 at.1 at.2 (get_or rows i d) at.3 s (subst (λ o. slice_get (entries_of o) i ≡ Some s) some e));
    count = subst (λ o. length rows ≡ length (entries_of o)) (sym some)
        (as_many (SEQUENCE trusted_subject).format (SEQUENCE trusted_subject).law (fixed_route (in_content trust_list subjects)) 64 b v (refl, has.has.is_value.reads) entries list_part IsEntryRow rows a);
  }

  pub rows_are : {A : Type 0} (rows : A → List EntryRanges) (r : Result A Error) → MatchResult r (λ a. AreRows IsEntryRow to_entries 0 b (rows a)) (λ e. e ≢ Memory → HasNoList to_entries 0 b) → MatchResult r (λ a. AreEntriesOf b v w (rows a)) (λ e. e ≡ Memory)
  rows_are rows (Ok a) h = entries_are (rows a) h
  rows_are rows (Err e) h = only_memory e (λ other. has_list (SEQUENCE trusted_subject).format (SEQUENCE trusted_subject).law (fixed_route (in_content trust_list subjects)) 64 b v (refl, has.has.is_value.reads) entries list_part (h other))

pub no_entries : (b : List ℕ) (v : FileValue) (w : TrustValue) → subjects_of w ≡ None → (rows : List EntryRanges) → rows ≡ [] → AreEntriesOf b v w rows
no_entries b v w none rows empty = record {
  each = λ i less d s e. absurd (omega (arith, less, ap length empty));
  count = ap length empty ∙ sym (ap (λ o. length (entries_of o)) none);
}
