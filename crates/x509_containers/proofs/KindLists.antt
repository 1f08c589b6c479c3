-- That the list of all kinds leaves none out, and what is asked of each of a list.
use Rattle.std.specs.Prelude.{zero, suc}
use Rattle.std.proofs.Common.{◌≡◌, ◌≢◌, ◌↔◌, ◌∙◌, ℕ, ◌+◌, ◌<◌, ◌≤◌, Bool, true, false, not, ◌&&◌, eqb, refl, true≢false, IsTrue, List, [], ◌∷◌, ◌++◌, map, length, take, get_or, inl, inr, ap, subst, sym, rules}
use Rattle.std.specs.List.{All, flat_map}
use Rattle.std.proofs.lemmas.Bool.{and_parts, eq-eqb}
use Rattle.std.proofs.lemmas.List.{take_all}
use Rattle.std.proofs.lemmas.List.Elements.{All-head, All-tail, All-more}
use Rattle.x509_containers.specs.Kinds.{IsAmong, kinds, layers, word_of}
use Rattle.x509_containers.specs.declared.kinds.Kind.{Kind}
use Rattle.x509_containers.specs.declared.kinds.Kind.TheVariants.{Algorithm, Authenticode, Content, Enveloped, SignedData, SignedPart, Store, TrustList}
use Rattle.x509_containers.specs.AlgorithmKinds
use Rattle.x509_containers.specs.AuthenticodeKinds
use Rattle.x509_containers.specs.ContentKinds
use Rattle.x509_containers.specs.EnvelopedKinds
use Rattle.x509_containers.specs.SignedDataKinds
use Rattle.x509_containers.specs.SignedPartKinds
use Rattle.x509_containers.specs.StoreKinds
use Rattle.x509_containers.specs.TrustListKinds
use Rattle.x509_containers.specs.declared.kinds.algorithms.AlgorithmKind.{AlgorithmKind}
use Rattle.x509_containers.specs.declared.kinds.authenticode.AuthenticodeKind.{AuthenticodeKind}
use Rattle.x509_containers.specs.declared.kinds.content_infos.ContentKind.{ContentKind}
use Rattle.x509_containers.specs.declared.kinds.enveloped.EnvelopedKind.{EnvelopedKind}
use Rattle.x509_containers.specs.declared.kinds.signed_data.SignedDataKind.{SignedDataKind}
use Rattle.x509_containers.specs.declared.kinds.signed_parts.SignedPartKind.{SignedPartKind}
use Rattle.x509_containers.specs.declared.kinds.stores.StoreKind.{StoreKind}
use Rattle.x509_containers.specs.declared.kinds.trust_lists.TrustListKind.{TrustListKind}

-- among a list with another after it, and among one with another before it
here : {B : Type 0} (xs ys : List B) (y : B) → IsAmong xs y → IsAmong (xs ++ ys) y
here [] ys y i = absurd i
here (a ∷ rest) ys y (inl e) = inl e
here (a ∷ rest) ys y (inr i) = inr (here rest ys y i)

past : {B : Type 0} (xs ys : List B) (y : B) → IsAmong ys y → IsAmong (xs ++ ys) y
past [] ys y i = i
past (a ∷ rest) ys y i = inr (past rest ys y i)

-- among one of several lists
among : {B : Type 0} (lists : List (List B)) (n : ℕ) (y : B) → IsAmong (get_or lists n []) y → IsAmong (flat_map (λ list. list) lists) y
among [] n y i = absurd i
among (list ∷ lists) zero y i = here list (flat_map (λ list. list) lists) y i
among (list ∷ lists) (suc n) y i = past list (flat_map (λ list. list) lists) y (among lists n y i)

mapped : {A B : Type 0} (f : A → B) (xs : List A) (x : A) → IsAmong xs x → IsAmong (map f xs) (f x)
mapped f [] x i = absurd i
mapped f (a ∷ rest) x (inl e) = inl (ap f e)
mapped f (a ∷ rest) x (inr i) = inr (mapped f rest x i)

algorithms : (kind : AlgorithmKind) → IsAmong AlgorithmKinds.kinds kind
algorithms = search rules

authenticode : (kind : AuthenticodeKind) → IsAmong AuthenticodeKinds.kinds kind
authenticode = search rules

contents : (kind : ContentKind) → IsAmong ContentKinds.kinds kind
contents = search rules

enveloped : (kind : EnvelopedKind) → IsAmong EnvelopedKinds.kinds kind
enveloped = search rules

signed_data : (kind : SignedDataKind) → IsAmong SignedDataKinds.kinds kind
signed_data = search rules

signed_parts : (kind : SignedPartKind) → IsAmong SignedPartKinds.kinds kind
signed_parts = search rules

stores : (kind : StoreKind) → IsAmong StoreKinds.kinds kind
stores = search rules

trust_lists : (kind : TrustListKind) → IsAmong TrustListKinds.kinds kind
trust_lists = search rules

pub every : (kind : Kind) → IsAmong kinds kind
every (Algorithm kind) = among layers 0 (Algorithm kind) (mapped Algorithm AlgorithmKinds.kinds kind (algorithms kind))
every (Authenticode kind) = among layers 1 (Authenticode kind) (mapped Authenticode AuthenticodeKinds.kinds kind (authenticode kind))
every (Content kind) = among layers 2 (Content kind) (mapped Content ContentKinds.kinds kind (contents kind))
every (Enveloped kind) = among layers 3 (Enveloped kind) (mapped Enveloped EnvelopedKinds.kinds kind (enveloped kind))
every (SignedData kind) = among layers 4 (SignedData kind) (mapped SignedData SignedDataKinds.kinds kind (signed_data kind))
every (SignedPart kind) = among layers 5 (SignedPart kind) (mapped SignedPart SignedPartKinds.kinds kind (signed_parts kind))
every (Store kind) = among layers 6 (Store kind) (mapped Store StoreKinds.kinds kind (stores kind))
every (TrustList kind) = among layers 7 (TrustList kind) (mapped TrustList TrustListKinds.kinds kind (trust_lists kind))

of_all : {A : Type 0} (P : A → Type 0) (xs : List A) (x : A) → All P xs → IsAmong xs x → P x
of_all P [] x all i = absurd i
of_all P (a ∷ rest) x all (inl e) = subst P (sym e) (All-head P a rest all)
of_all P (a ∷ rest) x all (inr i) = of_all P rest x (All-tail P a rest all) i

-- the kinds that a loop has passed have other words
abbrev pub HasPassed : List ℕ → List Kind → ℕ → Type 0
HasPassed word xs i = All (λ kind. word ≢ word_of kind) (take i xs)

pub one_more : (word : List ℕ) (xs : List Kind) (i : ℕ) (d : Kind) (same : Bool) → i < length xs → (IsTrue same ↔ (word ≡ word_of (get_or xs i d))) → same ≡ false → HasPassed word xs i → HasPassed word xs (i + 1)
one_more word xs i d same in_range is no_word passed =
    All-more (λ kind. word ≢ word_of kind) xs i d in_range passed (λ e. true≢false (sym (is.1 e) ∙ no_word))

pub of_none : (word : List ℕ) (xs : List Kind) (i : ℕ) → length xs ≤ i → HasPassed word xs i → (kind : Kind) → IsAmong xs kind → word ≢ word_of kind
of_none word xs i end passed kind =
    of_all (λ kind. word ≢ word_of kind) xs kind (subst (All (λ kind. word ≢ word_of kind)) (take_all i xs end) passed)

-- whether two words are one
abbrev pub is_same : List ℕ → List ℕ → Bool
is_same [] [] = true
is_same [] (y ∷ ys) = false
is_same (x ∷ xs) [] = false
is_same (x ∷ xs) (y ∷ ys) = eqb x y && is_same xs ys

same_as_itself : (xs : List ℕ) → is_same xs xs ≡ true
same_as_itself [] = refl
same_as_itself (x ∷ xs) = ap (λ b. b && is_same xs xs) (eq-eqb x x refl) ∙ same_as_itself xs

-- whether a word is none of the kinds', and whether each kind has a word of its own
abbrev pub is_other : List ℕ → List Kind → Bool
is_other word [] = true
is_other word (kind ∷ rest) = not (is_same word (word_of kind)) && is_other word rest

abbrev pub have_own : List Kind → Bool
have_own [] = true
have_own (kind ∷ rest) = is_other (word_of kind) rest && have_own rest

not_other : (word : List ℕ) (xs : List Kind) (kind : Kind) → is_other word xs ≡ true → IsAmong xs kind → word ≢ word_of kind
not_other word [] kind h i e = absurd i
not_other word (x ∷ rest) kind h (inl p) e =
    let same : is_same word (word_of x) ≡ true = subst (λ w. is_same word w ≡ true) (e ∙ ap word_of p) (same_as_itself word) in
    true≢false (sym (and_parts _ _ h).0 ∙ ap not same)
not_other word (x ∷ rest) kind h (inr i) e = not_other word rest kind (and_parts _ _ h).1 i e

of_own : (xs : List Kind) → have_own xs ≡ true → (a b : Kind) → IsAmong xs a → IsAmong xs b → word_of a ≡ word_of b → a ≡ b
of_own [] h a b i j e = absurd i
of_own (x ∷ rest) h a b (inl p) (inl q) e = p ∙ sym q
of_own (x ∷ rest) h a b (inl p) (inr j) e = absurd (not_other (word_of x) rest b (and_parts _ _ h).0 j (sym (ap word_of p) ∙ e))
of_own (x ∷ rest) h a b (inr i) (inl q) e = absurd (not_other (word_of x) rest a (and_parts _ _ h).0 i (sym (ap word_of q) ∙ sym e))
of_own (x ∷ rest) h a b (inr i) (inr j) e = of_own rest (and_parts _ _ h).1 a b i j e

pub own_words : (a b : Kind) → word_of a ≡ word_of b → a ≡ b
own_words a b e = of_own kinds refl a b (every a) (every b) e
