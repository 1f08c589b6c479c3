-- Laws of `Forest.antt`.
use Rattle.std.specs.Prelude.{◌≡◌, ℕ, ◌+◌, List, [], ◌∷◌, ◌++◌, map}
use Rattle.std.specs.List.{flat_map}
use Rattle.std.proofs.Common.{refl, ap, ap₂}
use Rattle.asn1_core.specs.Der.{is_nil, least_all}
use Rattle.pkcs7_signed.specs.Forest.{Forest, Node, fold_all, fold_node, forest, more, nodes, none, same_all}

module _ {I : Type 0} (A : I → Type 0) (P : (i : I) → A i → Type 0) (c : (i : I) → A i → I) where
  pub nodes_forest : {i : I} (vs : List (Node A P c i)) → nodes A P c (forest A P c vs) ≡ vs
  nodes_forest [] = refl
  nodes_forest (v ∷ vs) = ap (λ us. v ∷ us) (nodes_forest vs)

  pub forest_nodes : {i : I} (f : Forest A P c i) → forest A P c (nodes A P c f) ≡ f
  forest_nodes none = refl
  forest_nodes (more a p f g) = ap (more a p f) (forest_nodes g)

  -- what is made of a node, from what was made of those that it holds
  module _ {T : Type 0} (t : (i : I) (a : A i) → P i a → List T → T) where
    pub nil_same : {i : I} (f : Forest A P c i) → is_nil (nodes A P c f) ≡ is_nil (fold_all A P c t f)
    nil_same none = refl
    nil_same (more a p f g) = refl

  -- the same nodes, with something else in each alternative
  module _ (n : (i : I) (a : A i) → P i a → P i a) where
    abbrev pub same_node : (i : I) → Node A P c i → Node A P c i
    same_node i v = (v.0, n i v.0 v.1, same_all A P c n v.2)

    pub same_list : {i : I} (f : Node A P c i → Node A P c i) → ((v : Node A P c i) → f v ≡ same_node i v) → (g : Forest A P c i) → forest A P c (map f (nodes A P c g)) ≡ same_all A P c n g
    same_list f e none = refl
    same_list f e (more a p g h) = ap₂ (λ v us. more v.0 v.1 v.2 us) (e (a, p, g)) (same_list f e h)

  pub texts_fold : (t : (i : I) (a : A i) → P i a → List (List ℕ) → List ℕ) {i : I} (f : Node A P c i → List ℕ) → ((v : Node A P c i) → f v ≡ fold_node A P c t i v) → (g : Forest A P c i) → flat_map f (nodes A P c g) ≡ flat_map (λ b. b) (fold_all A P c t g)
  texts_fold t f e none = refl
  texts_fold t f e (more a p g h) = ap₂ ◌++◌ (e (a, p, g)) (texts_fold t f e h)

  pub least_fold : (t : (i : I) (a : A i) → P i a → List ℕ → ℕ) {i : I} (f : Node A P c i → ℕ) → ((v : Node A P c i) → f v ≡ fold_node A P c t i v) → (g : Forest A P c i) → least_all f (nodes A P c g) ≡ least_all (λ n. n) (fold_all A P c t g)
  least_fold t f e none = refl
  least_fold t f e (more a p g h) = ap₂ ◌+◌ (e (a, p, g)) (least_fold t f e h)
