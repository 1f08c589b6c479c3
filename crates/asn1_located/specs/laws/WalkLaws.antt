-- Laws of `WalkLaws.antt`.
use Rattle.std.specs.Prelude.{◌≤◌, ◌+◌, ℕ, zero, suc, List, [], ◌∷◌, ◌++◌, length}
use Rattle.std.proofs.Common.{sym, ap, ◌∙◌, subst, inl, inr, arith, length-append, append_assoc, append-nil}
use Rattle.asn1_core_element.specs.Element.{head}
use Rattle.asn1_core_element.specs.laws.ElementLaws.{element_cut, elements_cut}
use Rattle.asn1_located.specs.Places.{Begins, Contains, Follows, FollowsMany, Leads, Stays, Walk}
use Rattle.asn1_located.specs.declared.walks.Step.{Step}
use Rattle.asn1_located.specs.declared.walks.Step.TheVariants.{Inside, Element, After, Past, Nth}
use Rattle.asn1_located.specs.WalkLaws.{AreOne, LiesIn}

pub one_after : (m : ℕ) (x : List ℕ) (n o : ℕ) (y z : List ℕ) → Follows m x n y → Follows m x o z → AreOne n y o z
one_after m x n o y z f g =
    let r = elements_cut (λ _. Unit {0}) (λ _. Unit {0}) f.element g.element y z f.is g.is (sym f.split ∙ g.split) in
    (f.place ∙ ap (λ e. m + length e) r.0 ∙ sym g.place, r.1)

pub one_inside : (m : ℕ) (x : List ℕ) (n o : ℕ) (y z : List ℕ) → Contains m x n y → Contains m x o z → AreOne n y o z
one_inside m x n o y z f g =
    let r = element_cut f.tag g.tag y z f.rest g.rest (append_assoc _ y f.rest ∙ sym f.split ∙ g.split ∙ sym (append_assoc _ z g.rest)) in
    (f.place ∙ ap (λ t. m + length (head t (length y))) r.0 ∙ ap (λ c. m + length (head g.tag (length c))) r.1 ∙ sym g.place, r.1)

pub one_element : (m : ℕ) (x : List ℕ) (n o : ℕ) (y z : List ℕ) → Begins m x n y → Begins m x o z → AreOne n y o z
one_element m x n o y z f g =
    let r = elements_cut (λ _. Unit {0}) (λ _. Unit {0}) y z f.rest g.rest f.is g.is (sym f.split ∙ g.split) in
    (f.place ∙ sym g.place, r.0)

moved : (m k : ℕ) (x y : List ℕ) (n o : ℕ) (w z : List ℕ) → AreOne m x k y → Follows m x n w → Follows k y o z → AreOne n w o z
moved m k x y n o w z e f g = one_after m x n o w z f (subst (λ u. Follows u x o z) (sym e.0) (subst (λ u. Follows k u o z) (sym e.1) g))

pub one_many : (k m : ℕ) (x : List ℕ) (n o : ℕ) (y z : List ℕ) → FollowsMany k m x n y → FollowsMany k m x o z → AreOne n y o z
one_many zero m x n o y z f g = (f.0 ∙ sym g.0, f.1 ∙ sym g.1)
one_many (suc k) m x n o y z (l, u, f, a) (i, v, g, b) = moved l i u v n o y z (one_many k m x l i u v f g) a b

pub one_step : (s : Step) (m : ℕ) (x : List ℕ) (n o : ℕ) (y z : List ℕ) → Leads s m x n y → Leads s m x o z → AreOne n y o z
one_step Inside m x n o y z f g = one_inside m x n o y z f g
one_step Element m x n o y z f g = one_element m x n o y z f g
one_step After m x n o y z f g = one_after m x n o y z f g
one_step (Past t) m x n o y z (inl f) (inl g) = one_after m x n o y z f.1 g.1
one_step (Past t) m x n o y z (inl f) (inr g) = absurd (g.0 f.0)
one_step (Past t) m x n o y z (inr f) (inl g) = absurd (f.0 g.0)
one_step (Past t) m x n o y z (inr f) (inr g) = (f.1.0 ∙ sym g.1.0, f.1.1 ∙ sym g.1.1)
one_step (Nth k) m x n o y z f g = one_many k m x n o y z f g

pub fits : {m n : ℕ} {x y : List ℕ} → LiesIn m x n y → n + length y ≤ m + length x
fits {m} {n} {x} {y} s = omega (arith, s.place, ap length s.is, length-append s.before (y ++ s.after), length-append y s.after)

stays : (m : ℕ) (x : List ℕ) (n : ℕ) (y : List ℕ) → Stays m x n y → LiesIn m x n y
stays m x n y s = record { before = []; after = []; is = sym s.1 ∙ sym (append-nil y); place = omega (arith, s.0) }

follows : (m : ℕ) (x : List ℕ) (n : ℕ) (y : List ℕ) → Follows m x n y → LiesIn m x n y
follows m x n y f = record { before = f.element; after = []; is = f.split ∙ ap (λ r. f.element ++ r) (sym (append-nil y)); place = f.place }

pub join : (m k n : ℕ) (x y z : List ℕ) → LiesIn m x k y → LiesIn k y n z → LiesIn m x n z
join m k n x y z a b = record {
  before = a.before ++ b.before;
  after = b.after ++ a.after;
  is = a.is ∙ ap (λ u. a.before ++ u) (ap (λ u. u ++ a.after) b.is ∙ append_assoc b.before (z ++ b.after) a.after ∙ ap (λ u. b.before ++ u) (append_assoc z b.after a.after)) ∙ sym (append_assoc a.before b.before (z ++ (b.after ++ a.after)));
  place = omega (arith, a.place, b.place, length-append a.before b.before);
}

many : (k m : ℕ) (x : List ℕ) (n : ℕ) (y : List ℕ) → FollowsMany k m x n y → LiesIn m x n y
many zero m x n y f = stays m x n y f
many (suc k) m x n y (l, z, f, a) = join m l n x z y (many k m x l z f) (follows l z n y a)

pub step_lies_in : (s : Step) (m : ℕ) (x : List ℕ) (n : ℕ) (y : List ℕ) → Leads s m x n y → LiesIn m x n y
step_lies_in Inside m x n y f = record { before = head f.tag (length y); after = f.rest; is = f.split; place = f.place }
step_lies_in Element m x n y f = record { before = []; after = f.rest; is = f.split; place = omega (arith, f.place) }
step_lies_in After m x n y f = follows m x n y f
step_lies_in (Past t) m x n y (inl f) = follows m x n y f.1
step_lies_in (Past t) m x n y (inr f) = stays m x n y f.1
step_lies_in (Nth k) m x n y f = many k m x n y f

pub walk_lies_in : (steps : List Step) (m : ℕ) (x : List ℕ) (n : ℕ) (y : List ℕ) → Walk steps m x n y → LiesIn m x n y
walk_lies_in [] m x n y w = stays m x n y w
walk_lies_in (s ∷ steps) m x n y (l, z, f, w) = join m l n x z y (step_lies_in s m x l z f) (walk_lies_in steps l z n y w)

-- one walk after another
pub walk_on : (p q : List Step) (m k n : ℕ) (x y z : List ℕ) → Walk p m x k y → Walk q k y n z → Walk (p ++ q) m x n z
walk_on [] q m k n x y z a b = subst (λ u. Walk q u x n z) a.0 (subst (λ u. Walk q k u n z) a.1 b)
walk_on (s ∷ p) q m k n x y z (l, u, f, a) b = (l, u, f, walk_on p q l k n u y z a b)
