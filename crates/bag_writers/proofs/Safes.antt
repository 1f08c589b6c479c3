-- Bags with their attributes encoded are written as a SafeContents, which is read as its bags.
use Rattle.std.specs.Prelude.{◌≡◌, ◌<◌, ◌+◌, ◌++◌, slice_index_or, take, ℕ, List, [], ◌∷◌, length, Result, Ok, Err, MatchResult, map}
use Rattle.std.specs.List.{AllByRecursion, AllZip, flat_map}
use Rattle.std.proofs.Common.{ap, inl, inr, refl, subst, sym, ◌∙◌}
use Rattle.std.proofs.lemmas.List.{take_more}
use Rattle.asn1_core.specs.Asn1.{SEQUENCE}
use Rattle.asn1_core.specs.Der.{Format, each, element, sequence}
use Rattle.asn1_core_element.specs.declared.error.Error.{Error}
use Rattle.asn1_core_element.specs.declared.error.Error.TheVariants.{Invalid, TooLong, Memory}
use Rattle.asn1_core_format.specs.laws.Whole.{value_of}
use Rattle.asn1_borrowed.specs.Written.{IsNotWritten}
use Rattle.bag_writers.proofs.BagTexts.{bag, bag_formed, bag_normal, bag_text, can_be, can_formed, is_bag}
use Rattle.bag_writers.specs.Given.{given_bag}
use Rattle.bag_writers.specs.Values.{attributed_value}
use Rattle.bag_writers.specs.Written.{CanBeWritten, HasAttributes, IsBagOf, IsNotSafe, IsSafeContentsOf, SAFE}
use Rattle.bag_writers.specs.declared.bags.Attributed.{Attributed}
use Rattle.bag_writers.specs.declared.bags.Bag.{Bag}
use Rattle.x509_pkcs12.specs.RawBags.{raw_safe_bag, raw_safe_contents}

abbrev BAG : Format raw_safe_bag.Value
BAG = (SEQUENCE raw_safe_bag).format

memory_is_another : Memory ≡ TooLong → ⊥
memory_is_another e = cc

memory_is_no_invalid : Memory ≡ Invalid → ⊥
memory_is_no_invalid e = cc

long_is_no_invalid : (e : Error) → e ≡ TooLong → e ≡ Invalid → ⊥
long_is_no_invalid e l i = (let x : TooLong ≡ Invalid = sym l ∙ i in cc)

invalid_is_another : Invalid ≡ TooLong → ⊥
invalid_is_another e = cc

abbrev bags : (given : List Bag) (all : List Attributed) → AllZip HasAttributes given all → raw_safe_contents.Value
bags [] [] h = []
bags [] (x ∷ xs) h = absurd h
bags (g ∷ gs) [] h = absurd h
bags (g ∷ gs) (x ∷ xs) h = bag g x h.0 ∷ bags gs xs h.1

each_bag : (given : List Bag) (all : List Attributed) (h : AllZip HasAttributes given all) → AllZip IsBagOf given (bags given all h)
each_bag [] [] h = tt
each_bag [] (x ∷ xs) h = absurd h
each_bag (g ∷ gs) [] h = absurd h
each_bag (g ∷ gs) (x ∷ xs) h = (is_bag g x h.0, each_bag gs xs h.1)

same_texts : (given : List Bag) (all : List Attributed) (h : AllZip HasAttributes given all) → flat_map given_bag.text (map attributed_value all) ≡ flat_map BAG.text (bags given all h)
same_texts [] [] h = refl
same_texts [] (x ∷ xs) h = absurd h
same_texts (g ∷ gs) [] h = absurd h
same_texts (g ∷ gs) (x ∷ xs) h =
    ap (λ t. t ++ flat_map given_bag.text (map attributed_value xs)) (bag_text g x h.0)
    ∙ ap (λ t. BAG.text (bag g x h.0) ++ t) (same_texts gs xs h.1)

all_formed : (given : List Bag) (all : List Attributed) (h : AllZip HasAttributes given all) → AllByRecursion (given_bag.IsWellFormed 64) (map attributed_value all) → AllByRecursion (BAG.IsWellFormed 64) (bags given all h)
all_formed [] [] h w = tt
all_formed [] (x ∷ xs) h w = absurd h
all_formed (g ∷ gs) [] h w = absurd h
all_formed (g ∷ gs) (x ∷ xs) h w = (bag_formed g x h.0 w.0, all_formed gs xs h.1 w.1)

all_normal : (given : List Bag) (all : List Attributed) (h : AllZip HasAttributes given all) → map BAG.normal (bags given all h) ≡ bags given all h
all_normal [] [] h = refl
all_normal [] (x ∷ xs) h = absurd h
all_normal (g ∷ gs) [] h = absurd h
all_normal (g ∷ gs) (x ∷ xs) h =
    ap (λ b. b ∷ map BAG.normal (bags gs xs h.1)) (bag_normal g x h.0)
    ∙ ap (λ l. bag g x h.0 ∷ l) (all_normal gs xs h.1)

all_can : (given : List Bag) (all : List Attributed) → AllZip HasAttributes given all → AllByRecursion CanBeWritten given → AllByRecursion (given_bag.IsWellFormed 64) (map attributed_value all)
all_can [] [] h c = tt
all_can [] (x ∷ xs) h c = absurd h
all_can (g ∷ gs) [] h c = absurd h
all_can (g ∷ gs) (x ∷ xs) h c = (can_formed g x h.0 c.0, all_can gs xs h.1 c.1)

all_can_be : (given : List Bag) (all : List Attributed) → AllZip HasAttributes given all → AllByRecursion (given_bag.IsWellFormed 64) (map attributed_value all) → AllByRecursion CanBeWritten given
all_can_be [] [] h w = tt
all_can_be [] (x ∷ xs) h w = absurd h
all_can_be (g ∷ gs) [] h w = absurd h
all_can_be (g ∷ gs) (x ∷ xs) h w = (can_be g x h.0 w.0, all_can_be gs xs h.1 w.1)

lacks_memory : (given : List Bag) → IsNotSafe given Memory
lacks_memory given = record { kind = inr (inr refl); long = λ e. absurd (memory_is_another e); none = λ e. absurd (memory_is_no_invalid e) }

module _ (given : List Bag) (all : List Attributed) (h : AllZip HasAttributes given all) where
  abbrev text : List ℕ
  text = (sequence (each given_bag)).text (map attributed_value all)

  is_invalid : ((sequence (each given_bag)).IsWellFormed 64 (map attributed_value all) → ⊥) → IsNotSafe given Invalid
  is_invalid n = record { kind = inl refl; long = λ e. absurd (invalid_is_another e); none = λ i c. n (all_can given all h c) }

  is_safe : (sequence (each given_bag)).IsWellFormed 64 (map attributed_value all) → (t : List ℕ) → t ≡ text → IsSafeContentsOf given t
  is_safe w t e =
      let found = bags given all h in
      let same : t ≡ SAFE.format.text found = e ∙ ap (element 0x30) (same_texts given all h) in
      let reads = SAFE.law.components.text_reads 64 found (all_formed given all h w) in
      let normal : SAFE.format.Reads 64 (SAFE.format.text found) found = subst (λ v. SAFE.format.Reads 64 (SAFE.format.text found) v) (all_normal given all h) reads in
      record {
        can = all_can_be given all h w;
        bags = found;
        each = each_bag given all h;
        text_is = same;
        reads = value_of SAFE.format 64 t found SAFE.law (subst (λ b. SAFE.format.Reads 64 b found) (sym same) normal);
      }

  not_safe : (e : Error) → IsNotWritten (sequence (each given_bag)) (map attributed_value all) e → IsNotSafe given e
  not_safe e (inl n) = subst (IsNotSafe given) (sym n.0) (is_invalid n.1)
  not_safe e (inr (inl n)) = record { kind = inr (inl n.1); long = λ _. inr (text, is_safe n.0 text refl, n.2); none = λ i. absurd (long_is_no_invalid e n.1 i) }
  not_safe e (inr (inr m)) = subst (IsNotSafe given) (sym m) (lacks_memory given)

  pub safe_result : {A : Type 0} (items : A → List ℕ) (r : Result A Error) → MatchResult r (λ t. (sequence (each given_bag)).IsWellFormed 64 (map attributed_value all) × (items t ≡ text)) (λ e. IsNotWritten (sequence (each given_bag)) (map attributed_value all) e) → MatchResult r (λ t. IsSafeContentsOf given (items t)) (λ e. IsNotSafe given e)
  safe_result items (Ok t) h = is_safe h.0 (items t) h.1
  safe_result items (Err e) h = not_safe e h

-- one more bag
pub zip_push : {A B : Type 0} (R : A → B → Type 0) (xs : List A) (ys : List B) (x : A) (y : B) → AllZip R xs ys → R x y → AllZip R (xs ++ x ∷ []) (ys ++ y ∷ [])
zip_push R [] [] x y h r = (r, tt)
zip_push R [] (b ∷ bs) x y h r = absurd h
zip_push R (a ∷ more) [] x y h r = absurd h
zip_push R (a ∷ more) (b ∷ bs) x y h r = (h.0, zip_push R more bs x y h.1 r)

pub one_more : (given : List Bag) (all more : List Attributed) (i : ℕ) (x : Bag) (y : Attributed) → i < length given → x ≡ slice_index_or given i x → AllZip HasAttributes (take i given) all → HasAttributes x y → more ≡ all ++ y ∷ [] → AllZip HasAttributes (take (i + 1) given) more
one_more given all more i x y l is h r e =
    let t : take (i + 1) given ≡ take i given ++ x ∷ [] = take_more given i x l ∙ ap (λ z. take i given ++ z ∷ []) (sym is) in
    subst (λ bs. AllZip HasAttributes bs more) (sym t) (subst (λ m. AllZip HasAttributes (take i given ++ x ∷ []) m) (sym e) (zip_push HasAttributes (take i given) all x y h r))
