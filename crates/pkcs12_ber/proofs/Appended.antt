-- Contents in DER, one after another.
use Rattle.std.proofs.Common.{◌≡◌, ℕ, ◌+◌, ◌<◌, ◌≤◌, List, [], ◌∷◌, ◌++◌, length, get_or, map, take, drop, refl, sym, ap, subst, ◌∙◌, inl, arith}
use Rattle.std.specs.List.{flat_map}
use Rattle.std.proofs.lemmas.List.{append_assoc, append-nil, length-map, get_or-map, map-append, take_all, take_more, drop_more, take-append-drop}
use Rattle.asn1_core.specs.Der.{Octets}
use Rattle.x509_pkcs12.specs.AuthSafes.{AuthSafeValue}
use Rattle.pkcs12_ber.specs.Places.{InData}
use Rattle.pkcs12_ber.specs.declared.reading.BufferOffset.TheVariants.{Data}
use Rattle.pkcs12_ber.specs.InDer.{info, IsInfoInDer, AreInDer, HasAppended, HaveNoDer}

abbrev Info : Type 0
Info = AuthSafeValue Octets

pub one_appended : (c d : Info) (old new : List ℕ) → IsInfoInDer c d → new ≡ old ++ info.text d → HasAppended (c ∷ []) old new
one_appended c d old new p e = record {
  ders = d ∷ [];
  each = (p, tt);
  out = e ∙ ap (λ t. old ++ t) (sym (append-nil (info.text d)));
}

pub none_one : (c : Info) → ((d : Info) → IsInfoInDer c d → ⊥) → HaveNoDer (c ∷ [])
none_one c none [] p = p
none_one c none (d ∷ ds) p = none d p.0

both_in_der : (cs es ds fs : List Info) → AreInDer cs ds → AreInDer es fs → AreInDer (cs ++ es) (ds ++ fs)
both_in_der [] es [] fs p q = q
both_in_der [] es (d ∷ ds) fs p q = absurd p
both_in_der (c ∷ cs) es [] fs p q = absurd p
both_in_der (c ∷ cs) es (d ∷ ds) fs p q = (p.0, both_in_der cs es ds fs p.1 q)

texts_of_both : (ds fs : List Info) → flat_map info.text (ds ++ fs) ≡ flat_map info.text ds ++ flat_map info.text fs
texts_of_both [] fs = refl
texts_of_both (d ∷ ds) fs = ap (λ t. info.text d ++ t) (texts_of_both ds fs) ∙ sym (append_assoc (info.text d) (flat_map info.text ds) (flat_map info.text fs))

pub both_appended : {cs es : List Info} {old mid new : List ℕ} → HasAppended cs old mid → HasAppended es mid new → HasAppended (cs ++ es) old new
both_appended {cs} {es} {old} {mid} {new} p q = record {
  ders = p.ders ++ q.ders;
  each = both_in_der cs es p.ders q.ders p.each q.each;
  out =
      q.out ∙ ap (λ t. t ++ flat_map info.text q.ders) p.out ∙ append_assoc old (flat_map info.text p.ders) (flat_map info.text q.ders)
      ∙ ap (λ t. old ++ t) (sym (texts_of_both p.ders q.ders));
}

-- one without DER among others
none_among : (before after : List Info) (c : Info) → HaveNoDer (c ∷ []) → HaveNoDer (before ++ c ∷ after)
none_among [] after c none [] p = p
none_among [] after c none (d ∷ ds) p = none (d ∷ []) (p.0, tt)
none_among (b ∷ before) after c none [] p = p
none_among (b ∷ before) after c none (d ∷ ds) p = none_among before after c none ds p.1

-- in a loop over contents, the one at an index
module _ {T : Type 0} (f : T → Info) (xs : List T) (i : ℕ) (x : T) (h : i < length xs) (e : x ≡ get_or xs i x) where
  up_to : map f (take (i + 1) xs) ≡ map f (take i xs) ++ f x ∷ []
  up_to = ap (map f) (take_more xs i x h ∙ ap (λ y. take i xs ++ y ∷ []) (sym e)) ∙ map-append f (take i xs) (x ∷ [])

  around : map f xs ≡ map f (take i xs) ++ f x ∷ map f (drop (i + 1) xs)
  around =
      ap (map f) (sym (take-append-drop i xs) ∙ ap (λ ys. take i xs ++ ys) (drop_more xs i x h ∙ ap (λ y. y ∷ drop (i + 1) xs) (sym e)))
      ∙ map-append f (take i xs) (x ∷ drop (i + 1) xs)

  pub one_more_appended : {old mid new : List ℕ} → HasAppended (map f (take i xs)) old mid → HasAppended (f x ∷ []) mid new → HasAppended (map f (take (i + 1) xs)) old new
  one_more_appended {old} {mid} {new} p q = subst (λ cs. HasAppended cs old new) (sym up_to) (both_appended p q)

  pub none_of_all : HaveNoDer (f x ∷ []) → HaveNoDer (map f xs)
  none_of_all none = subst HaveNoDer (sym around) (none_among (map f (take i xs)) (map f (drop (i + 1) xs)) (f x) none)

  pub in_one : {at : ℕ} → InData (f x ∷ []) (Data 0 at) → InData (map f xs) (Data i at)
  in_one {at} p = (p.0, omega (arith, h, length-map xs f), get_or-map f xs i x (inl p.0) h ∙ ap f (sym e) ∙ p.2, p.3)

pub all_appended : {T : Type 0} (f : T → Info) (xs : List T) (i : ℕ) {old new : List ℕ} → length xs ≤ i → HasAppended (map f (take i xs)) old new → HasAppended (map f xs) old new
all_appended f xs i {old} {new} l p = subst (λ ys. HasAppended (map f ys) old new) (take_all i xs l) p

-- another content is its own DER
pub other_appended : (c : Info) (old new : List ℕ) → IsInfoInDer c c → new ≡ old ++ info.text c → HasAppended (c ∷ []) old new
other_appended c old new p e = one_appended c c old new p e

pub none_appended : HasAppended [] [] []
none_appended = record { ders = []; each = tt; out = refl }
