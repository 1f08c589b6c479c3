-- The attributes that are given of a bag, in the order of DER.
use Rattle.std.specs.Prelude.{◌≡◌, ◌++◌, ◌&&◌, not, ℕ, Bool, true, false, List, [], ◌∷◌, Option, None, Some, map}
use Rattle.std.specs.List.{AllByRecursion}
use Rattle.std.specs.Str.{bytes_eq}
use Rattle.std.proofs.Common.{ap, arith, refl, subst, sym, true≢false, ◌∙◌}
use Rattle.std.proofs.lemmas.Bool.{false_from_ne_true}
use Rattle.std.proofs.lemmas.Option.{none-some}
use Rattle.std.proofs.lemmas.List.{append_assoc, map-append}
use Rattle.std.proofs.lemmas.List.Elements.{All-from_recursion, recursion_from_All}
use Rattle.std.proofs.lemmas.List.Sorted.{All-permutation}
use Rattle.std.proofs.lemmas.Slice.Eq.{bytes_eq-Decides}
use Rattle.asn1_core.specs.Asn1.{OCTET_STRING}
use Rattle.asn1_core.specs.Der.{ElementOctets, Octets, octet_string}
use Rattle.asn1_sets.proofs.Shuffled.{order_of}
use Rattle.asn1_sets.specs.Order.{IsInOrder, compared}
use Rattle.std.specs.List.Sorted.{IsSorted}
use Rattle.attribute_writers.proofs.Found as Found
use Rattle.attribute_writers.proofs.Found.{all_of_both, here, none_left, only_in, past}
use Rattle.attribute_writers.specs.Attributes.{attribute_text, is_formed}
use Rattle.bag_writers.specs.GivenAttributes.{IsName, is_further, key_ids, names, further}
use Rattle.bag_writers.specs.Written.{HasGoodAttributes, HasTexts, given_attributes, key_id_of, name_of}
use Rattle.bag_writers.specs.declared.bags.Bag.{Bag}
use Rattle.pkcs12_bags.specs.Oids.{oid}
use Rattle.pkcs12_bags.specs.laws.Oids.{oid_valid}
use Rattle.pkcs12_bags.specs.declared.parts.oids.TheConstants.{FRIENDLY_NAME, LOCAL_KEY_ID}
use Rattle.x509_base.specs.AttributesByOid.{with_oid}
use Rattle.x509_base.specs.Names.{attribute, attribute_value}
use Rattle.x509_pkcs12.specs.Utf16.{utf16_string}

name_good : (o : Option Octets) → IsName o → (x : Octets) → o ≡ Some x → utf16_string.format.IsWellFormed 64 x
name_good None h x e = absurd (none-some x e)
name_good (Some y) h x e = subst IsName e h

pub given_formed : (given : Bag) → HasGoodAttributes given → AllByRecursion is_formed (given_attributes given)
given_formed given h =
    all_of_both is_formed (names (name_of given)) _ (Found.formed (oid FRIENDLY_NAME) utf16_string.format (oid_valid FRIENDLY_NAME) utf16_string.law (name_of given) (name_good (name_of given) h.0))
    (all_of_both is_formed (key_ids (key_id_of given)) (further given.attributes.now) (Found.formed (oid LOCAL_KEY_ID) octet_string (oid_valid LOCAL_KEY_ID) OCTET_STRING.law (key_id_of given) (λ x e. tt)) h.1)

-- the last octet of the contents
abbrev last_of : List ℕ → ℕ
last_of [] = 0
last_of (x ∷ []) = x
last_of (x ∷ y ∷ xs) = last_of (y ∷ xs)

no_name_is_key_id : bytes_eq (oid LOCAL_KEY_ID) (oid FRIENDLY_NAME) ≡ false
no_name_is_key_id = false_from_ne_true _ (λ t. let e = (bytes_eq-Decides (oid LOCAL_KEY_ID) (oid FRIENDLY_NAME)).0 t in omega (arith, ap (λ l. last_of l) e))

no_key_id_is_name : bytes_eq (oid FRIENDLY_NAME) (oid LOCAL_KEY_ID) ≡ false
no_key_id_is_name = false_from_ne_true _ (λ t. let e = (bytes_eq-Decides (oid FRIENDLY_NAME) (oid LOCAL_KEY_ID)).0 t in omega (arith, ap (λ l. last_of l) e))

neither : (a b : Bool) → (not a && not b) ≡ true → (a ≡ false) × (b ≡ false)
neither false false h = (refl, refl)
neither false true h = (refl, sym h)
neither true b h = (sym h, absurd (true≢false (sym h)))

names_in_others : (given : Bag) → with_oid (oid FRIENDLY_NAME) (further given.attributes.now) ≡ []
names_in_others given = none_left (λ a. bytes_eq a.0 (oid FRIENDLY_NAME)) is_further (λ a t. (neither (bytes_eq a.0 (oid FRIENDLY_NAME)) (bytes_eq a.0 (oid LOCAL_KEY_ID)) t).0) (map attribute_value given.attributes.now)

key_ids_in_others : (given : Bag) → with_oid (oid LOCAL_KEY_ID) (further given.attributes.now) ≡ []
key_ids_in_others given = none_left (λ a. bytes_eq a.0 (oid LOCAL_KEY_ID)) is_further (λ a t. (neither (bytes_eq a.0 (oid FRIENDLY_NAME)) (bytes_eq a.0 (oid LOCAL_KEY_ID)) t).1) (map attribute_value given.attributes.now)

names_found : (given : Bag) → with_oid (oid FRIENDLY_NAME) (given_attributes given) ≡ names (name_of given)
names_found given =
    let type = oid FRIENDLY_NAME in
    let name = Found.itself type utf16_string.format (name_of given) in
    let id = Found.another (oid LOCAL_KEY_ID) octet_string type no_name_is_key_id (key_id_of given) in
    here type (names (name_of given)) (key_ids (key_id_of given) ++ further given.attributes.now) (names (name_of given)) name
    (past type (key_ids (key_id_of given)) (further given.attributes.now) [] id (names_in_others given))

key_ids_found : (given : Bag) → with_oid (oid LOCAL_KEY_ID) (given_attributes given) ≡ key_ids (key_id_of given)
key_ids_found given =
    let type = oid LOCAL_KEY_ID in
    let name = Found.another (oid FRIENDLY_NAME) utf16_string.format type no_key_id_is_name (name_of given) in
    let id = Found.itself type octet_string (key_id_of given) in
    past type (names (name_of given)) (key_ids (key_id_of given) ++ further given.attributes.now) (key_ids (key_id_of given)) name
    (here type (key_ids (key_id_of given)) (further given.attributes.now) (key_ids (key_id_of given)) id (key_ids_in_others given))

name_reads : (o : Option Octets) → IsName o → (x : Octets) → o ≡ Some x → utf16_string.format.Reads 64 (utf16_string.format.text x) x
name_reads o h x e = utf16_string.law.components.text_reads 64 x (name_good o h x e)

key_id_reads : (o : Option Octets) (x : Octets) → o ≡ Some x → octet_string.Reads 64 (octet_string.text x) x
key_id_reads o x e = OCTET_STRING.law.components.text_reads 64 x tt

pub has_texts : (given : Bag) (texts : List ElementOctets) → HasGoodAttributes given → IsInOrder (map attribute_text (given_attributes given)) texts → HasTexts given texts
has_texts given texts good o =
    let s = order_of attribute_text (given_attributes given) texts o.permutation in
    record {
      good = good;
      all = s.order;
      are = record {
        permutation = s.permutation;
        sorted = subst (IsSorted compared) (sym s.images) o.sorted;
        friendly_name = only_in (oid FRIENDLY_NAME) utf16_string.format (name_of given) (name_reads (name_of given) good.0) (given_attributes given) s.order (names_found given) s.permutation;
        local_key_id = only_in (oid LOCAL_KEY_ID) octet_string (key_id_of given) (key_id_reads (key_id_of given)) (given_attributes given) s.order (key_ids_found given) s.permutation;
      };
      texts_are = sym s.images;
      formed = recursion_from_All is_formed s.order (All-permutation is_formed (given_attributes given) s.order s.permutation (All-from_recursion is_formed (given_attributes given) (given_formed given good)));
    }

-- the texts that were added, one part after another
pub texts_are : (first second third last : List (List ℕ)) (a b c : List attribute.Value) → first ≡ [] → second ≡ first ++ map attribute_text a → third ≡ second ++ map attribute_text b → last ≡ third ++ map attribute_text c → last ≡ map attribute_text (a ++ (b ++ c))
texts_are first second third last a b c e f g h =
    h ∙ ap (λ t. t ++ map attribute_text c) (g ∙ ap (λ t. t ++ map attribute_text b) (f ∙ ap (λ t. t ++ map attribute_text a) e))
    ∙ append_assoc (map attribute_text a) (map attribute_text b) (map attribute_text c)
    ∙ ap (λ t. map attribute_text a ++ t) (sym (map-append attribute_text b c))
    ∙ sym (map-append attribute_text a (b ++ c))
