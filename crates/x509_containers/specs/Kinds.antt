-- The kinds of input that the program knows, of all layers, by the words that name them.
use Rattle.std.specs.Prelude.{◌≡◌, ◌⊎◌, ℕ, List, [], ◌∷◌, map}
use Rattle.std.specs.List.{flat_map}
use Rattle.der_engine.specs.Engine.{Rewriting}
use Rattle.x509_containers.specs.declared.kinds.Kind.{Kind}
use Rattle.x509_containers.specs.declared.kinds.Kind.TheVariants.{Algorithm, Authenticode, Content, Enveloped, SignedData, SignedPart, Store, TrustList}
use Rattle.x509_containers.specs.Entries.{Entry}
use Rattle.x509_containers.specs.AlgorithmKinds
use Rattle.x509_containers.specs.AuthenticodeKinds
use Rattle.x509_containers.specs.ContentKinds
use Rattle.x509_containers.specs.EnvelopedKinds
use Rattle.x509_containers.specs.SignedDataKinds
use Rattle.x509_containers.specs.SignedPartKinds
use Rattle.x509_containers.specs.StoreKinds
use Rattle.x509_containers.specs.TrustListKinds

abbrev pub entry_of : Kind → Entry
entry_of (Algorithm kind) = AlgorithmKinds.entry_of kind
entry_of (Authenticode kind) = AuthenticodeKinds.entry_of kind
entry_of (Content kind) = ContentKinds.entry_of kind
entry_of (Enveloped kind) = EnvelopedKinds.entry_of kind
entry_of (SignedData kind) = SignedDataKinds.entry_of kind
entry_of (SignedPart kind) = SignedPartKinds.entry_of kind
entry_of (Store kind) = StoreKinds.entry_of kind
entry_of (TrustList kind) = TrustListKinds.entry_of kind

abbrev pub word_of : Kind → List ℕ
word_of kind = (entry_of kind).word

-- what inputs of that kind are rewritten to, with at most so many nesting levels
abbrev pub rewriting_at : Kind → ℕ → Rewriting
rewriting_at kind limit = (entry_of kind).rewriting limit

-- with at most 64 levels
abbrev pub rewriting_as : Kind → Rewriting
rewriting_as kind = rewriting_at kind 64

-- those of each layer
abbrev pub layers : List (List Kind)
layers =
    map Algorithm AlgorithmKinds.kinds ∷ map Authenticode AuthenticodeKinds.kinds ∷ map Content ContentKinds.kinds ∷ map Enveloped EnvelopedKinds.kinds
    ∷ map SignedData SignedDataKinds.kinds ∷ map SignedPart SignedPartKinds.kinds ∷ map Store StoreKinds.kinds ∷ map TrustList TrustListKinds.kinds ∷ []

abbrev pub kinds : List Kind
kinds = flat_map (λ layer. layer) layers

-- x is one of the list
abbrev pub IsAmong : {A : Type 0} → List A → A → Type 0
IsAmong [] x = ⊥
IsAmong (a ∷ rest) x = (x ≡ a) ⊎ IsAmong rest x
