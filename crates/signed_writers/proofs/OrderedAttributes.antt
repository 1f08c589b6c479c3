-- The attributes that are given of a signer, in the order of DER.
use Rattle.std.specs.Prelude.{◌≡◌, ◌++◌, ◌&&◌, not, ℕ, Bool, true, false, List, [], ◌∷◌, Option, None, Some, map}
use Rattle.std.specs.List.{AllByRecursion}
use Rattle.std.specs.List.Sorted.{IsSorted}
use Rattle.std.specs.Str.{bytes_eq}
use Rattle.std.proofs.Common.{ap, arith, refl, subst, sym, true≢false, ◌∙◌}
use Rattle.std.proofs.lemmas.Bool.{false_from_ne_true}
use Rattle.std.proofs.lemmas.List.{append_assoc, map-append}
use Rattle.std.proofs.lemmas.List.Elements.{All-from_recursion, recursion_from_All}
use Rattle.std.proofs.lemmas.List.Sorted.{All-permutation}
use Rattle.std.proofs.lemmas.Option.{none-some}
use Rattle.std.proofs.lemmas.Slice.Eq.{bytes_eq-Decides}
use Rattle.asn1_core.specs.Asn1.{OBJECT_IDENTIFIER, OCTET_STRING}
use Rattle.asn1_core.specs.Der.{ElementOctets, Octets, OidOctets, object_identifier, octet_string, oid_from_test}
use Rattle.asn1_leaves_times.specs.Times.{moment_of_generalized}
use Rattle.asn1_leaves_times.specs.declared.generalized_time.GeneralizedTime.{GeneralizedTime}
use Rattle.asn1_sets.proofs.Shuffled.{order_of}
use Rattle.asn1_sets.specs.Order.{IsInOrder, compared}
use Rattle.attribute_writers.proofs.Found as Found
use Rattle.attribute_writers.proofs.Found.{all_of_both, here, none_left, only_in, past}
use Rattle.attribute_writers.specs.Attributes.{alone, attribute_text, is_formed}
use Rattle.pkcs7_attributes.specs.NamedAttributes.{content_type_oid, message_digest_oid, signing_time_oid}
use Rattle.signed_writers.proofs.SigningTimes.{time_formed, time_normal}
use Rattle.signed_writers.specs.GivenAttributes.{AreGood, IsTypeOrNone, content_type_of, digest_of, further_of, given_attributes, is_further, signing_time, time_of}
use Rattle.signed_writers.specs.WrittenAttributes.{AreTexts}
use Rattle.signed_writers.specs.declared.attributes.SignedAttributes.{SignedAttributes}
use Rattle.x509_base.specs.AttributesByOid.{with_oid}
use Rattle.x509_base.specs.Names.{attribute, attribute_value}
use Rattle.x509_base.specs.Times.{time}

abbrev types_of : SignedAttributes → List attribute.Value
types_of x = alone content_type_oid object_identifier (content_type_of x)

abbrev digests_of : SignedAttributes → List attribute.Value
digests_of x = alone message_digest_oid octet_string (digest_of x)

abbrev times_of : SignedAttributes → List attribute.Value
times_of x = alone signing_time_oid time.format (time_of x.signing_time)

type_good : (o : Option OidOctets) → IsTypeOrNone o → (x : OidOctets) → o ≡ Some x → object_identifier.IsWellFormed 64 x
type_good None h x e = absurd (none-some x e)
type_good (Some y) h x e = subst IsTypeOrNone e h

one_some : {X : Type 0} (x y : X) → Some x ≡ Some y → x ≡ y
one_some x y e = cc

time_good : (o : Option GeneralizedTime) (x : time.Value) → time_of o ≡ Some x → time.format.IsWellFormed 64 x
time_good None x e = absurd (none-some x e)
time_good (Some t) x e = subst (time.format.IsWellFormed 64) (one_some (signing_time (moment_of_generalized t)) x e) (time_formed (moment_of_generalized t) t.valid)

time_same : (o : Option GeneralizedTime) (x : time.Value) → time_of o ≡ Some x → time.format.normal x ≡ x
time_same None x e = absurd (none-some x e)
time_same (Some t) x e = subst (λ v. time.format.normal v ≡ v) (one_some (signing_time (moment_of_generalized t)) x e) (time_normal (moment_of_generalized t))

given_formed : (given : SignedAttributes) → AreGood given → AllByRecursion is_formed (given_attributes given)
given_formed given h =
    all_of_both is_formed (types_of given) _ (Found.formed content_type_oid object_identifier (oid_from_test content_type_oid refl) OBJECT_IDENTIFIER.law (content_type_of given) (type_good (content_type_of given) h.0))
    (all_of_both is_formed (digests_of given) _ (Found.formed message_digest_oid octet_string (oid_from_test message_digest_oid refl) OCTET_STRING.law (digest_of given) (λ x e. tt))
    (all_of_both is_formed (times_of given) (further_of given) (Found.formed signing_time_oid time.format (oid_from_test signing_time_oid refl) time.law (time_of given.signing_time) (time_good given.signing_time)) h.1))

-- the last octet of the contents
abbrev last_of : List ℕ → ℕ
last_of [] = 0
last_of (x ∷ []) = x
last_of (x ∷ y ∷ xs) = last_of (y ∷ xs)

type_digest : bytes_eq content_type_oid message_digest_oid ≡ false
type_digest = false_from_ne_true _ (λ t. let e = (bytes_eq-Decides content_type_oid message_digest_oid).0 t in omega (arith, ap (λ l. last_of l) e))

type_time : bytes_eq content_type_oid signing_time_oid ≡ false
type_time = false_from_ne_true _ (λ t. let e = (bytes_eq-Decides content_type_oid signing_time_oid).0 t in omega (arith, ap (λ l. last_of l) e))

digest_type : bytes_eq message_digest_oid content_type_oid ≡ false
digest_type = false_from_ne_true _ (λ t. let e = (bytes_eq-Decides message_digest_oid content_type_oid).0 t in omega (arith, ap (λ l. last_of l) e))

digest_time : bytes_eq message_digest_oid signing_time_oid ≡ false
digest_time = false_from_ne_true _ (λ t. let e = (bytes_eq-Decides message_digest_oid signing_time_oid).0 t in omega (arith, ap (λ l. last_of l) e))

time_type : bytes_eq signing_time_oid content_type_oid ≡ false
time_type = false_from_ne_true _ (λ t. let e = (bytes_eq-Decides signing_time_oid content_type_oid).0 t in omega (arith, ap (λ l. last_of l) e))

time_digest : bytes_eq signing_time_oid message_digest_oid ≡ false
time_digest = false_from_ne_true _ (λ t. let e = (bytes_eq-Decides signing_time_oid message_digest_oid).0 t in omega (arith, ap (λ l. last_of l) e))

none_of : (a b c : Bool) → (not a && (not b && not c)) ≡ true → (a ≡ false) × (b ≡ false) × (c ≡ false)
none_of false false false h = (refl, refl, refl)
none_of false false true h = absurd (true≢false (sym h))
none_of false true c h = absurd (true≢false (sym h))
none_of true b c h = absurd (true≢false (sym h))

further_tells : (a : attribute.Value) → is_further a ≡ true → (bytes_eq a.0 content_type_oid ≡ false) × (bytes_eq a.0 message_digest_oid ≡ false) × (bytes_eq a.0 signing_time_oid ≡ false)
further_tells a t = none_of (bytes_eq a.0 content_type_oid) (bytes_eq a.0 message_digest_oid) (bytes_eq a.0 signing_time_oid) t

module _ (given : SignedAttributes) where
  none_further : (type : OidOctets) → ((a : attribute.Value) → is_further a ≡ true → bytes_eq a.0 type ≡ false) → with_oid type (further_of given) ≡ []
  none_further type others = none_left (λ a. bytes_eq a.0 type) is_further others (map attribute_value given.attributes.now)

  types_found : with_oid content_type_oid (given_attributes given) ≡ types_of given
  types_found =
      here content_type_oid (types_of given) (digests_of given ++ (times_of given ++ further_of given)) (types_of given) (Found.itself content_type_oid object_identifier (content_type_of given))
      (past content_type_oid (digests_of given) (times_of given ++ further_of given) [] (Found.another message_digest_oid octet_string content_type_oid digest_type (digest_of given))
      (past content_type_oid (times_of given) (further_of given) [] (Found.another signing_time_oid time.format content_type_oid time_type (time_of given.signing_time)) (none_further content_type_oid (λ a t. (further_tells a t).0))))

  digests_found : with_oid message_digest_oid (given_attributes given) ≡ digests_of given
  digests_found =
      past message_digest_oid (types_of given) (digests_of given ++ (times_of given ++ further_of given)) (digests_of given) (Found.another content_type_oid object_identifier message_digest_oid type_digest (content_type_of given))
      (here message_digest_oid (digests_of given) (times_of given ++ further_of given) (digests_of given) (Found.itself message_digest_oid octet_string (digest_of given))
      (past message_digest_oid (times_of given) (further_of given) [] (Found.another signing_time_oid time.format message_digest_oid time_digest (time_of given.signing_time)) (none_further message_digest_oid (λ a t. (further_tells a t).1))))

  times_found : with_oid signing_time_oid (given_attributes given) ≡ times_of given
  times_found =
      past signing_time_oid (types_of given) (digests_of given ++ (times_of given ++ further_of given)) (times_of given) (Found.another content_type_oid object_identifier signing_time_oid type_time (content_type_of given))
      (past signing_time_oid (digests_of given) (times_of given ++ further_of given) (times_of given) (Found.another message_digest_oid octet_string signing_time_oid digest_time (digest_of given))
      (here signing_time_oid (times_of given) (further_of given) (times_of given) (Found.itself signing_time_oid time.format (time_of given.signing_time)) (none_further signing_time_oid (λ a t. (further_tells a t).2))))

type_reads : (o : Option OidOctets) → IsTypeOrNone o → (x : OidOctets) → o ≡ Some x → object_identifier.Reads 64 (object_identifier.text x) x
type_reads o h x e = OBJECT_IDENTIFIER.law.components.text_reads 64 x (type_good o h x e)

digest_reads : (x : Octets) → octet_string.Reads 64 (octet_string.text x) x
digest_reads x = OCTET_STRING.law.components.text_reads 64 x tt

time_reads : (o : Option GeneralizedTime) (x : time.Value) → time_of o ≡ Some x → time.format.Reads 64 (time.format.text x) x
time_reads o x e = subst (λ v. time.format.Reads 64 (time.format.text x) v) (time_same o x e) (time.law.components.text_reads 64 x (time_good o x e))

pub has_texts : (given : SignedAttributes) (texts : List ElementOctets) → AreGood given → IsInOrder (map attribute_text (given_attributes given)) texts → AreTexts given texts
has_texts given texts good o =
    let s = order_of attribute_text (given_attributes given) texts o.permutation in
    record {
      good = good;
      all = s.order;
      are = record {
        permutation = s.permutation;
        sorted = subst (IsSorted compared) (sym s.images) o.sorted;
        content_type = only_in content_type_oid object_identifier (content_type_of given) (type_reads (content_type_of given) good.0) (given_attributes given) s.order (types_found given) s.permutation;
        message_digest = only_in message_digest_oid octet_string (digest_of given) (λ x e. digest_reads x) (given_attributes given) s.order (digests_found given) s.permutation;
        signing_time = only_in signing_time_oid time.format (time_of given.signing_time) (time_reads given.signing_time) (given_attributes given) s.order (times_found given) s.permutation;
      };
      texts_are = sym s.images;
      formed = recursion_from_All is_formed s.order (All-permutation is_formed (given_attributes given) s.order s.permutation (All-from_recursion is_formed (given_attributes given) (given_formed given good)));
    }

-- the texts that were added, one part after another
pub texts_are : (first second third fourth last : List (List ℕ)) (a b c d : List attribute.Value) → first ≡ [] → second ≡ first ++ map attribute_text a → third ≡ second ++ map attribute_text b → fourth ≡ third ++ map attribute_text c → last ≡ fourth ++ map attribute_text d → last ≡ map attribute_text (a ++ (b ++ (c ++ d)))
texts_are first second third fourth last a b c d e f g h i =
    i ∙ ap (λ t. t ++ map attribute_text d) (h ∙ ap (λ t. t ++ map attribute_text c) (g ∙ ap (λ t. t ++ map attribute_text b) (f ∙ ap (λ t. t ++ map attribute_text a) e)))
    ∙ append_assoc (map attribute_text a ++ map attribute_text b) (map attribute_text c) (map attribute_text d)
    ∙ append_assoc (map attribute_text a) (map attribute_text b) (map attribute_text c ++ map attribute_text d)
    ∙ ap (λ t. map attribute_text a ++ (map attribute_text b ++ t)) (sym (map-append attribute_text c d))
    ∙ ap (λ t. map attribute_text a ++ t) (sym (map-append attribute_text b (c ++ d)))
    ∙ sym (map-append attribute_text a (b ++ (c ++ d)))
