-- What three words ask for.
use Rattle.std.proofs.Common.{◌≡◌, ◌≢◌, ◌≤◌, ◌<◌, ℕ, List, [], ◌∷◌, length, get_or, map, ap, ◌∙◌, arith}
use Rattle.std.specs.Prelude.{Option, None, Some, MatchOption}
use Rattle.x509_containers.specs.Kinds.{word_of}
use Rattle.x509_containers.specs.declared.kinds.Kind.{Kind}
use Rattle.der_engine.specs.Modes.{word_of_mode}
use Rattle.der_engine.specs.declared.outcome.Mode.{Mode}
use Rattle.x509_containers.specs.Words.{Asks}

-- three items are the first, the one at 1 and the one at 2
three : {A : Type 0} (items : List A) (b c : A) → 3 ≤ length items → length items < 4 → b ≡ get_or items 1 b → c ≡ get_or items 2 c → (a : A) × (items ≡ a ∷ b ∷ c ∷ [])
three [] b c h l p q = absurd (omega arith)
three (x ∷ []) b c h l p q = absurd (omega arith)
three (x ∷ y ∷ []) b c h l p q = absurd (omega arith)
three (x ∷ y ∷ z ∷ []) b c h l p q = (x, cc)
three (x ∷ y ∷ z ∷ u ∷ xs) b c h l p q = absurd (omega arith)

judged : (words : List (List ℕ)) (name mode kind : List ℕ) (r : Option (Mode × Kind)) → words ≡ name ∷ mode ∷ kind ∷ [] → MatchOption r ((m : Mode) (k : Kind) → mode ≡ word_of_mode m → kind ≢ word_of k) (λ j. (mode ≡ word_of_mode j.0) × (kind ≡ word_of j.1)) → MatchOption r ((m : Mode) (k : Kind) → Asks words m k → ⊥) (λ j. Asks words j.0 j.1)
judged words name mode kind None e h = λ m k a. (let f = a.1 in let i : mode ≡ word_of_mode m = cc in let j : kind ≡ word_of k = cc in h m k i j)
judged words name mode kind (Some j) e h = (name, e ∙ ap (λ x. name ∷ x ∷ kind ∷ []) h.0 ∙ ap (λ x. name ∷ word_of_mode j.0 ∷ x ∷ []) h.1)

pub asked_three : {A : Type 0} (text : A → List ℕ) (items : List A) (b c : A) (r : Option (Mode × Kind)) → 3 ≤ length items → length items < 4 → b ≡ get_or items 1 b → c ≡ get_or items 2 c → MatchOption r ((m : Mode) (k : Kind) → text b ≡ word_of_mode m → text c ≢ word_of k) (λ j. (text b ≡ word_of_mode j.0) × (text c ≡ word_of j.1)) → MatchOption r ((m : Mode) (k : Kind) → Asks (map text items) m k → ⊥) (λ j. Asks (map text items) j.0 j.1)
asked_three text items b c r h l p q j =
    let t = three items b c h l p q in
    judged (map text items) (text t.0) (text b) (text c) r (ap (map text) t.1) j
