-- Certificates by the octets that signers name them by: the first that has them is the first that is named, if one is.
use Rattle.std.specs.Prelude.{◌≡◌, ℕ, ◌+◌, ◌<◌, ◌≤◌, Bool, true, false, cond, List, [], ◌∷◌, Option, None, Some, length, drop, get_or, map}
use Rattle.std.proofs.Common.{refl, sym, ap, subst, ◌∙◌, true≢false, Vec, Global}
use mathlib.Core.Logic.{⊎_elim, inl, inr}
use Rattle.std.proofs.Math.ListN.{drop_of_length-le}
use Rattle.std.proofs.lemmas.Bool.{cases_Bool, cond-true, cond-false}
use Rattle.std.proofs.lemmas.Map.Text.{is_eq-slice_cmp}
use Rattle.std.proofs.lemmas.Slice.Eq.{bytes_eq-Decides}
use Rattle.std.specs.Cmp.{eq_by_cmp_equiv}
use Rattle.std.specs.Cmp.Lexicographic.{slice_cmp, nat_list_cmp_total}
use Rattle.std.specs.Ordering.{is_eq, nat_cmp}
use Rattle.std.specs.Option.{is_some}
use Rattle.std.specs.List.{find}
use Rattle.std.specs.Str.{bytes_eq}
use Rattle.std.specs.BTreeMap.{BTreeMap, get_by, UpdatesBy}
use Rattle.std.specs.Map.{lookup, IsKeyTest, AreApart, KeepsOthers}
use Rattle.asn1_core.specs.Der.{Octets, option_value}
use Rattle.asn1_core.specs.declared.implicit.ImplicitContextTag0.{ImplicitContextTag0}
use Rattle.pkcs7_signed_crl.specs.SignerParts.{certificate_serial_number_value, signer_identifier_value}
use Rattle.pkcs7_signed_crl.specs.declared.signers.IssuerAndSerialNumber.{IssuerAndSerialNumber}
use Rattle.pkcs7_signed_crl.specs.declared.signers.SignerIdentifier.{SignerIdentifier}
use Rattle.pkcs7_signed_crl.specs.declared.signers.SignerIdentifier.TheVariants as By
use Rattle.pkcs7_verifier.proofs.Firsts.{from_here}
use Rattle.pkcs7_verifier.specs.Matches.{IsFirst}
use Rattle.x509_base.specs.Names.{name_parts}
use Rattle.x509_base.specs.declared.digests.SubjectKeyIdentifier.{SubjectKeyIdentifier}
use Rattle.x509_pkcs7.specs.AllSigners.{KnownValue, IsKnownAs, name_octets, are_octets, is_named, kept, or_else}
use Rattle.x509_pkcs7.specs.declared.verifier.all_signers.NamedBy.TheVariants.{Issuer, Key}

module _ {K X : Type 0} (eq : K → K → Bool) (test : K → Bool) where
  other_entries : (old new : List (K × X)) → KeepsOthers eq test old new → (other : K → Bool) → IsKeyTest eq other → AreApart test other → lookup other new ≡ lookup other old
  unfolding KeepsOthers
  other_entries old new h = h

-- what differs from k is no other than k
apart : (b q k : List ℕ) → bytes_eq b q ≡ false → is_eq (slice_cmp nat_cmp b k) ≡ true → is_eq (slice_cmp nat_cmp q k) ≡ false
apart b q k n y =
    let same : b ≡ k = (bytes_eq-Decides b k).0 (sym (is_eq-slice_cmp b k) ∙ y) in
    is_eq-slice_cmp q k ∙ ⊎_elim (λ t. absurd (true≢false (sym ((bytes_eq-Decides b q).1 (same ∙ sym ((bytes_eq-Decides q k).0 t))) ∙ n))) (λ f. f) (cases_Bool (bytes_eq q k))

empty : {X : Type 0} (o : Option X) → false ≡ is_some o → o ≡ None
empty None e = refl
empty (Some y) e = absurd (true≢false (sym e))

-- what is put there, by the test
put_at : {V : Type 0} (b : Bool) (old new : Option V) (v : V) → (b ≡ true → (old ≡ None) × (new ≡ Some v)) → (b ≡ false → new ≡ old) → new ≡ kept b old v
put_at true old new v h n = (h refl).1 ∙ ap (λ o. kept true o v) (sym (h refl).0)
put_at false old new v h n = n refl

keep_at : {X V : Type 0} (f : X → V) (b : Bool) (o : Option X) (v : V) → (b ≡ true → is_some o ≡ true) → option_value f o ≡ kept b (option_value f o) v
keep_at f false o v h = refl
keep_at f true None v h = absurd (true≢false (sym (h refl)))
keep_at f true (Some y) v h = refl

-- what a map has at octets
abbrev pub at : {X : Type 0} → BTreeMap (Vec ℕ Global) X → List ℕ → Option X
at m q = get_by (λ k. slice_cmp nat_cmp q k.items) m

module _ {X V : Type 0} (f : X → V) (m : BTreeMap (Vec ℕ Global) X) (b : List ℕ) where
  pub inserted : (n : BTreeMap (Vec ℕ Global) X) (k : Vec ℕ Global) → k.items ≡ b → (x : X) → UpdatesBy (λ x y. slice_cmp nat_cmp x.items y.items) (λ y. slice_cmp nat_cmp k.items y.items) m n (Some x) → false ≡ is_some (at m b)
      → (q : List ℕ) → option_value f (at n q) ≡ kept (bytes_eq b q) (option_value f (at m q)) (f x)
  inserted n k same x u none q =
      let differs : bytes_eq b q ≡ false → bytes_eq k.items q ≡ false = λ t. ap (λ c. bytes_eq c q) same ∙ t in
      put_at (bytes_eq b q) (option_value f (at m q)) (option_value f (at n q)) (f x)
      (λ t. let e : b ≡ q = (bytes_eq-Decides b q).0 t in (ap (option_value f) (subst (λ z. at m z ≡ None) e (empty (at m b) none)), ap (option_value f) (subst (λ z. at n z ≡ Some x) (same ∙ e) u.1)))
      (λ t. ap (option_value f) (other_entries _ _ _ _ u.3 _ (λ x y. (eq_by_cmp_equiv nat_list_cmp_total).congr q x.items y.items) (λ y. apart k.items q y.items (differs t))))

  pub there : (v : V) → true ≡ is_some (at m b) → (q : List ℕ) → option_value f (at m q) ≡ kept (bytes_eq b q) (option_value f (at m q)) v
  there v s q = keep_at f (bytes_eq b q) (at m q) v (λ t. subst (λ z. is_some (at m z) ≡ true) ((bytes_eq-Decides b q).0 t) (sym s))

or_kept : {V : Type 0} (t : Bool) (o : Option V) (v : V) (r : Option V) → or_else (kept t o v) r ≡ or_else o (cond t (Some v) r)
or_kept false None v r = refl
or_kept false (Some x) v r = refl
or_kept true None v r = refl
or_kept true (Some x) v r = refl

or_none : {V : Type 0} (o : Option V) → o ≡ or_else o None
or_none None = refl
or_none (Some x) = refl

module _ {X V : Type 0} (f : X → V) (xs : List X) (i : ℕ) (test : V → Bool) where
  pub index_step : (x : X) → i < length xs → x ≡ get_or xs i x → (old new : Option V) (t : Bool) → t ≡ test (f x) → new ≡ kept t old (f x) → or_else old (find test (map f (drop i xs))) ≡ find test (map f xs) → or_else new (find test (map f (drop (i + 1) xs))) ≡ find test (map f xs)
  index_step x h g old new t is put before =
      let rest = find test (map f (drop (i + 1) xs)) in
      ap (λ n. or_else n rest) put ∙ or_kept t old (f x) rest ∙ ap (or_else old) (ap (λ b. cond b (Some (f x)) rest) is ∙ sym (ap (find test) (from_here f xs i x h g))) ∙ before

  pub index_all : (o : Option V) → length xs ≤ i → or_else o (find test (map f (drop i xs))) ≡ find test (map f xs) → o ≡ find test (map f xs)
  index_all o h before = or_none o ∙ ap (λ ys. or_else o (find test (map f ys))) (sym (drop_of_length-le xs h)) ∙ before

no_some : {X : Type 0} {x : X} → None ≡ Some x → ⊥
no_some e = cc

some_cut : {X : Type 0} {x y : X} → Some x ≡ Some y → x ≡ y
some_cut e = cc

module _ {X : Type 0} (P : X → Type 0) (test : X → Bool) (sees : (x : X) → P x → test x ≡ true) where
  passes : (x : X) → test x ≡ false → P x → ⊥
  passes x f p = true≢false (sym (sees x p) ∙ f)

  -- none passes the test
  pub first_none : (xs : List X) → find test xs ≡ None → IsFirst P xs None
  first_none [] e = refl
  first_none (x ∷ xs) e =
      ⊎_elim
      (λ t. absurd (no_some (sym e ∙ cond-true (test x) (Some x) (find test xs) t)))
      (λ f. inr (passes x f, first_none xs (sym (cond-false (test x) (Some x) (find test xs) f) ∙ e)))
      (cases_Bool (test x))

  -- the first that passes is one
  pub first_some : (xs : List X) (y : X) → find test xs ≡ Some y → P y → IsFirst P xs (Some y)
  first_some [] y e p = sym e
  first_some (x ∷ xs) y e p =
      ⊎_elim
      (λ t. let same : x ≡ y = some_cut (sym (cond-true (test x) (Some x) (find test xs) t) ∙ e) in inl (subst P (sym same) p, ap Some (sym same)))
      (λ f. inr (passes x f, first_some xs y (sym (cond-false (test x) (Some x) (find test xs) f) ∙ e) p))
      (cases_Bool (test x))

-- a signer that names a certificate has its octets
pub seen_by_issuer : (s : SignerIdentifier) (i : IssuerAndSerialNumber) → s ≡ By.IssuerAndSerialNumber i → (q : Octets) → q ≡ name_octets (name_parts i.issuer) (certificate_serial_number_value i.serial_number) → (k : KnownValue) → IsKnownAs (signer_identifier_value s) k → is_named Issuer q k ≡ true
seen_by_issuer s i e q g k p =
    let named : IsKnownAs (signer_identifier_value (By.IssuerAndSerialNumber i)) k = subst (λ z. IsKnownAs (signer_identifier_value z) k) e p in
    let same : name_octets k.1.0.0.1.1.1.0 k.1.0.0.1.0 ≡ q = ap (λ n. name_octets n k.1.0.0.1.0) named.0 ∙ ap (name_octets (name_parts i.issuer)) named.1 ∙ sym g in
    (bytes_eq-Decides (name_octets k.1.0.0.1.1.1.0 k.1.0.0.1.0) q).1 same

is_there : (own : Option Octets) (q : Octets) → own ≡ Some q → are_octets q own ≡ true
is_there own q e = subst (λ z. are_octets q z ≡ true) (sym e) ((bytes_eq-Decides q q).1 refl)

pub seen_by_key : (s : SignerIdentifier) (key : ImplicitContextTag0 SubjectKeyIdentifier) → s ≡ By.SubjectKeyIdentifier key → (q : Octets) → q ≡ key.0.0.0.items → (k : KnownValue) → IsKnownAs (signer_identifier_value s) k → is_named Key q k ≡ true
seen_by_key s key e q g k p = is_there k.1.1 q (subst (λ z. IsKnownAs (signer_identifier_value z) k) e p ∙ ap Some (sym g))
