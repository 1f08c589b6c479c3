-- The ranges of signers, along lists.
use Rattle.std.specs.Prelude.{◌≡◌, ℕ, zero, suc, ◌+◌, ◌-◌, ◌<◌, ◌≤◌, List, [], ◌∷◌, ◌++◌, Option, Some, length, take, drop, get_or, map, slice_get}
use Rattle.std.proofs.Common.{refl, sym, ap, subst, ◌∙◌, add-one, drop-cons, arith, length-append, length-take}
use Rattle.std.specs.List.{enumerate_from}
use Rattle.std.proofs.Math.ListN.{drop_of_length-le}
use Rattle.std.proofs.lemmas.List.{append-nil, append_assoc, get_or-drop, get_or-map, get_or-take, take_all, length-drop, take-map, drop-map, length-map}
use Rattle.std.proofs.lemmas.Option.{slice_get-get_or}
use Rattle.asn1_core.specs.Der.{ElementOctets}
use Rattle.located_rows.proofs.RowLaws.{none_yet, one_more}
use Rattle.located_rows.specs.Rows.{AllAt}
use Rattle.pkcs7_signed_crl.specs.Certificates.{certificate_choices_value}
use Rattle.pkcs7_signed_crl.specs.declared.certificates.CertificateChoices.{CertificateChoices}
use Rattle.pkcs7_signed_crl.specs.SignerParts.{signer_identifier}
use Rattle.pkcs7_verifier.specs.Matches.{choice_octets, IsFirst}
use Rattle.signer_ranges.specs.Signers.{SignerValue, FileValue, signers_of, ArePlacesOrNone, AreRangesOrNone, AreRangesOfAll, IsPartOf}
use Rattle.signer_ranges.specs.declared.ranges.SignerRanges.{SignerRanges}
use Rattle.x509_pkcs7.specs.AllSigners.{AreSignersAt, IsSignersAt, Numbered}
use Rattle.x509_pkcs7.specs.RawSigners.{raw_signer_info_value}
use Rattle.x509_pkcs7.specs.declared.raw_signers.RawSignerInfo.{RawSignerInfo}

-- at most so many items from one on, by the way a slice is cut
module _ {X : Type 0} (xs : List X) (first most : ℕ) where
  -- from an item to the end
  rest : take (length xs - first) (drop first xs) ≡ drop first xs
  rest = take_all (length xs - first) (drop first xs) (omega (arith, length-drop first xs))

  pub past_the_end : length xs < first → [] ≡ take most (drop first xs)
  past_the_end h = sym (ap (take most) (drop_of_length-le xs {i = first} (omega (arith, h))) ∙ take_all most [] (omega arith))

  pub to_the_end : length (take (length xs - first) (drop first xs)) < most → take (length xs - first) (drop first xs) ≡ take most (drop first xs)
  to_the_end h = rest ∙ sym (take_all most (drop first xs) (omega (arith, h, ap length rest)))

  pub in_the_middle : take most (take (length xs - first) (drop first xs)) ≡ take most (drop first xs)
  in_the_middle = ap (take most) rest

module _ {X : Type 0} (f : X → SignerValue) (xs : List X) (i : ℕ) (b : List ℕ) (v : FileValue) where
  -- the values from an item on
  from_here : (x : X) → i < length xs → x ≡ get_or xs i x → map f (drop i xs) ≡ f x ∷ map f (drop (i + 1) xs)
  from_here x h e = ap (map f) (drop-cons xs i x h ∙ ap (λ j. get_or xs i x ∷ drop j xs) (sym (add-one i)) ∙ ap (λ y. y ∷ drop (i + 1) xs) (sym e))

  pub ranges_step : (x : X) → i < length xs → x ≡ get_or xs i x → (r : Option SignerRanges) → AreRangesOrNone b v (f x) r → (old new : List (Option SignerRanges)) → new ≡ old ++ r ∷ [] → ((rest : List (Option SignerRanges)) → AreRangesOfAll b v (map f (drop i xs)) rest → AreRangesOfAll b v (map f xs) (old ++ rest)) → (rest : List (Option SignerRanges)) → AreRangesOfAll b v (map f (drop (i + 1) xs)) rest → AreRangesOfAll b v (map f xs) (new ++ rest)
  ranges_step x h g r is old new e before rest a =
      let here : AreRangesOfAll b v (map f (drop i xs)) (r ∷ rest) = subst (λ ss. AreRangesOfAll b v ss (r ∷ rest)) (sym (from_here x h g)) (is, a) in
      subst (AreRangesOfAll b v (map f xs)) (sym (append_assoc old (r ∷ []) rest) ∙ ap (λ ks. ks ++ rest) (sym e)) (before (r ∷ rest) here)

  pub ranges_all : (found : List (Option SignerRanges)) → length xs ≤ i → ((rest : List (Option SignerRanges)) → AreRangesOfAll b v (map f (drop i xs)) rest → AreRangesOfAll b v (map f xs) (found ++ rest)) → AreRangesOfAll b v (map f xs) found
  ranges_all found h before = subst (AreRangesOfAll b v (map f xs)) (append-nil found) (before [] (subst (λ ys. AreRangesOfAll b v (map f ys) []) (sym (drop_of_length-le xs h)) refl))

module _ {X Y : Type 0} (id : X → signer_identifier.Value) (g : Y → Option Numbered) (cs : List ElementOctets) where
  -- the certificate of the signer with an index
  pub certificate_at : (xs : List X) (ys : List Y) (i : ℕ) (x : X) (y : Y) → AreSignersAt cs (map id xs) (map g ys) → i < length xs → x ≡ get_or xs i x → y ≡ get_or ys i y → IsFirst (IsSignersAt (id x)) (enumerate_from 0 cs) (g y)
  certificate_at [] ys i x y a h e k = absurd (omega (arith, h))
  certificate_at (c ∷ xs) [] i x y a h e k = absurd a
  certificate_at (c ∷ xs) (d ∷ ys) zero x y a h e k =
      subst (λ z. IsFirst (IsSignersAt (id z)) (enumerate_from 0 cs) (g y)) (sym e) (subst (λ z. IsFirst (IsSignersAt (id c)) (enumerate_from 0 cs) (g z)) (sym k) a.0)
  certificate_at (c ∷ xs) (d ∷ ys) (suc i) x y a h e k = certificate_at xs ys i x y a.1 (omega (arith, h)) e k

-- a list of two functions' values
map_twice : {A B C : Type 0} (f : A → B) (g : B → C) (xs : List A) → map (λ x. g (f x)) xs ≡ map g (map f xs)
map_twice f g [] = refl
map_twice f g (x ∷ xs) = ap (λ ys. g (f x) ∷ ys) (map_twice f g xs)

-- certificates of signed data, and those that are asked for
pub certificates_are : (cs ds : List CertificateChoices) (xs ys : List signer_identifier.Value) (found : List (Option Numbered)) → ds ≡ cs → xs ≡ ys → AreSignersAt (map (λ c. choice_octets (certificate_choices_value c)) ds) xs found → AreSignersAt (map choice_octets (map certificate_choices_value cs)) ys found
certificates_are cs ds xs ys found e g a =
    let same : map (λ c. choice_octets (certificate_choices_value c)) ds ≡ map choice_octets (map certificate_choices_value cs) = ap (map (λ c. choice_octets (certificate_choices_value c))) e ∙ map_twice certificate_choices_value choice_octets cs in
    subst (λ bs. AreSignersAt bs ys found) same (subst (λ ids. AreSignersAt (map (λ c. choice_octets (certificate_choices_value c)) ds) ids found) g a)

-- as many certificates as are read
pub long_certificates : (cs ds : List CertificateChoices) → ds ≡ cs → length ds ≡ length (map choice_octets (map certificate_choices_value cs))
long_certificates cs ds e = omega (arith, ap length e, length-map (map certificate_choices_value cs) choice_octets, length-map cs certificate_choices_value)

-- at most so many signers from one on
module _ (v : FileValue) (first most : ℕ) (xs all asked : List RawSignerInfo) (e : all ≡ xs) (g : asked ≡ take most (drop first all)) (s : signers_of v ≡ map raw_signer_info_value xs) where
  same : map raw_signer_info_value all ≡ signers_of v
  same = ap (map raw_signer_info_value) e ∙ sym s

  pub signers_at : AllAt (λ j x. slice_get (signers_of v) (first + j) ≡ Some (raw_signer_info_value x)) asked
  signers_at j less d =
      let lengths = length-take most (drop first all) in
      let inside : first + j < length all = omega (arith, less, ap length g, lengths, length-drop first all) in
      let here : get_or asked j d ≡ get_or all (first + j) d = ap (λ l. get_or l j d) g ∙ get_or-take most (drop first all) j d (omega (arith, less, ap length g, lengths)) ∙ get_or-drop first all j d in
      ap (λ l. slice_get l (first + j)) (sym same)
      ∙ slice_get-get_or (map raw_signer_info_value all) (first + j) (raw_signer_info_value d) (omega (arith, inside, length-map all raw_signer_info_value))
      ∙ ap Some (get_or-map raw_signer_info_value all (first + j) d (raw_signer_info_value d) inside ∙ ap raw_signer_info_value (sym here))

  pub is_part : (b : List ℕ) (found : List (Option SignerRanges)) → AreRangesOfAll b v (map raw_signer_info_value asked) found → AllAt (λ j r. ArePlacesOrNone b v (first + j) r) found → IsPartOf b v first most (length all) found
  is_part b found a places =
      let cut : map raw_signer_info_value (take most (drop first all)) ≡ take most (drop first (map raw_signer_info_value all)) = sym (take-map raw_signer_info_value most (drop first all)) ∙ ap (take most) (sym (drop-map raw_signer_info_value first all)) in
      record {
        all = sym (length-map all raw_signer_info_value) ∙ ap length same;
        ranges = subst (λ ss. AreRangesOfAll b v ss found) (ap (map raw_signer_info_value) g ∙ cut ∙ ap (λ ss. take most (drop first ss)) same) a;
        places = places;
      }

-- the ranges of the signers so far, along a list
pub record RangedSoFar (b : List ℕ) (v : FileValue) (first : ℕ) (xs : List RawSignerInfo) (i : ℕ) (found : List (Option SignerRanges)) : Type 0 where
  pub ranges : (rest : List (Option SignerRanges)) → AreRangesOfAll b v (map raw_signer_info_value (drop i xs)) rest → AreRangesOfAll b v (map raw_signer_info_value xs) (found ++ rest)
  pub many : length found ≡ i
  pub places : AllAt (λ j r. ArePlacesOrNone b v (first + j) r) found

module _ (b : List ℕ) (v : FileValue) (first : ℕ) (xs : List RawSignerInfo) where
  pub none_ranged : RangedSoFar b v first xs 0 []
  none_ranged = record { ranges = λ rest a. a; many = refl; places = none_yet (λ j r. ArePlacesOrNone b v (first + j) r) }

  pub one_ranged : (i : ℕ) (old new : List (Option SignerRanges)) → RangedSoFar b v first xs i old → (x : RawSignerInfo) → i < length xs → x ≡ get_or xs i x → (r : Option SignerRanges) → AreRangesOrNone b v (raw_signer_info_value x) r × ArePlacesOrNone b v (first + i) r → new ≡ old ++ r ∷ [] → RangedSoFar b v first xs (i + 1) new
  one_ranged i old new so_far x h g r is e =
      let P : ℕ → Option SignerRanges → Type 0 = λ j q. ArePlacesOrNone b v (first + j) q in
      record {
        ranges = ranges_step raw_signer_info_value xs i b v x h g r is.0 old new e so_far.ranges;
        many = omega (arith, so_far.many, ap length e, length-append old (r ∷ []));
        places = subst (AllAt P) (sym e) (one_more P old r so_far.places (subst (λ j. P j r) (sym so_far.many) is.1));
      }

  pub all_ranged : (i : ℕ) (found : List (Option SignerRanges)) → length xs ≤ i → RangedSoFar b v first xs i found → AreRangesOfAll b v (map raw_signer_info_value xs) found × AllAt (λ j r. ArePlacesOrNone b v (first + j) r) found
  all_ranged i found h so_far = (ranges_all raw_signer_info_value xs i b v found h so_far.ranges, so_far.places)

module _ {X Y : Type 0} (id : X → signer_identifier.Value) (g : Y → Option Numbered) (cs : List ElementOctets) where
  -- a certificate for each signer, or none
  as_many : (xs : List X) (ys : List Y) → AreSignersAt cs (map id xs) (map g ys) → length ys ≡ length xs
  as_many [] [] a = refl
  as_many [] (y ∷ ys) a = omega (arith, ap length a)
  as_many (x ∷ xs) [] a = absurd a
  as_many (x ∷ xs) (y ∷ ys) a = let e : length ys ≡ length xs = as_many xs ys a.1 in omega (arith, e)

  pub none_lacking : (xs : List X) (ys : List Y) (i : ℕ) → AreSignersAt cs (map id xs) (map g ys) → i < length xs → length ys ≤ i → ⊥
  none_lacking xs ys i a h l = omega (arith, h, l, as_many xs ys a)
