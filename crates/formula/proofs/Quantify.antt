-- Laws of quantification over a list of variables.
-- Assumes nothing.
use mathlib.Core.Path.{◌≡◌, refl, sym, ◌∙◌, ap, ap₂, fun_ext}
use mathlib.Core.Bool.{Bool, true, false, not}
use mathlib.Core.List.{List, [], ◌∷◌, ◌++◌}
use Prim.Native.Nat.{ℕ, zero, suc, ◌<◌}
use native.Mathlib.Omega.{arith}
use native.Mathlib.Nat.{le_of_suc-le-suc, not-suc-le-zero}
use lib.Dec.{eqb}
use lib.ListN.{length, get_or}
use borrow.Author.Tests.{eqb-true, eq-eqb, not-true}
use Rattle.lists.specs.Choice.{pick, pick_yes, pick_no, Is, is_true, is_false, look, clash, and_left, or_neither, or_neither_left, or_neither_right}
use Rattle.lists.specs.Members.{mem, distinct}
use Rattle.lists.proofs.Members.{distinct_tail}
use Rattle.formula.specs.Node.{Quantifier, exists, for_all, dual}
use Rattle.formula.specs.Valuation.{Valuation, update, join, quant}
use Rattle.formula.specs.Meaning.{DiffersAtMostAt}
use Rattle.formula.specs.Form.{Block, quantify}

-- Two valuations that are equal at the numbers in the list.
abbrev pub Inside : List ℕ → Valuation → Valuation → Type 0
Inside xs v u = (y : ℕ) → mem y xs ≡ true → v y ≡ u y

-- The value that one valuation forces on a quantifier: a witness makes exists true, a counterexample for-all false.
unfoldable pub decides : Quantifier → Bool
decides exists = true
decides for_all = false

pub decides_dual : (q : Quantifier) → decides (dual q) ≡ not (decides q)
unfolding dual decides
decides_dual exists = refl
decides_dual for_all = refl

pub update_same : (v : Valuation) (x : ℕ) (b : Bool) → update v x b x ≡ b
unfolding update
update_same v x b = pick_yes _ _ _ (eq-eqb x x refl)

-- A longer list: what differs at x alone, and then at most in xs, differs at most in x ∷ xs.
outside_cons : (x : ℕ) (b : Bool) (xs : List ℕ) (v u : Valuation) → DiffersAtMostAt xs (update v x b) u → DiffersAtMostAt (x ∷ xs) v u
unfolding mem update
outside_cons x b xs v u out y m =
    sym (pick_no _ _ _ (or_neither_left (eqb y x) (mem y xs) m)) ∙ out y (or_neither_right (eqb y x) (mem y xs) m)

-- The same, the other way round.
outside_cons' : (x : ℕ) (b : Bool) (xs : List ℕ) (v u : Valuation) → DiffersAtMostAt xs u (update v x b) → DiffersAtMostAt (x ∷ xs) u v
outside_cons' x b xs v u out y m = sym (outside_cons x b xs v u (λ z n. sym (out z n)) y m)

-- And back: once x has u's value, the two differ at most in xs.
outside_tail : (x : ℕ) (xs : List ℕ) (v u : Valuation) → DiffersAtMostAt (x ∷ xs) v u → DiffersAtMostAt xs (update v x (u x)) u
unfolding mem update
outside_tail x xs v u out y m = go (look (eqb y x))
  where
    go : Is (eqb y x) → pick (eqb y x) (u x) (v y) ≡ u y
    go (is_true e) = pick_yes _ _ _ e ∙ ap u (sym (eqb-true y x e))
    go (is_false e) = pick_no _ _ _ e ∙ out y (or_neither (eqb y x) (mem y xs) e m)

-- Valuations that are equal inside xs, and outside xs only have the same value at x, are equal inside x ∷ xs.
inside_cons : (x : ℕ) (b : Bool) (xs : List ℕ) (v u v' u' : Valuation)
    → Inside xs v' u' → DiffersAtMostAt xs v' (update v x b) → DiffersAtMostAt xs u' (update u x b) → Inside (x ∷ xs) v' u'
unfolding mem update
inside_cons x b xs v u v' u' in' ov ou y m = go (look (mem y xs)) (look (eqb y x))
  where
    go : Is (mem y xs) → Is (eqb y x) → v' y ≡ u' y
    go (is_true n) e = in' y n
    go (is_false n) (is_true e) = ov y n ∙ pick_yes _ _ _ e ∙ sym (ou y n ∙ pick_yes _ _ _ e)
    go (is_false n) (is_false e) = clash m (or_neither (eqb y x) (mem y xs) e n)

-- The joined value is the deciding one if one of the two is; and it is one of the two.
join_left : (q : Quantifier) (l r : Bool) → l ≡ decides q → join q l r ≡ decides q
unfolding join decides
join_left exists l r h = rw h
join_left for_all l r h = rw h

join_right : (q : Quantifier) (l r : Bool) → r ≡ decides q → join q l r ≡ decides q
unfolding join decides
join_right exists true r h = refl
join_right exists false r h = h
join_right for_all true r h = h
join_right for_all false r h = refl

join_reach : (q : Quantifier) (a : Bool → Bool) (b : Bool) → a b ≡ decides q → join q (a false) (a true) ≡ decides q
join_reach q a false h = join_left q (a false) (a true) h
join_reach q a true h = join_right q (a false) (a true) h

join_attain : (q : Quantifier) (a : Bool → Bool) → (b : Bool) × (join q (a false) (a true) ≡ a b)
unfolding join
join_attain q a = go q (a false) (a true) refl refl
  where
    go : (q : Quantifier) (l r : Bool) → a false ≡ l → a true ≡ r → (b : Bool) × (join q l r ≡ a b)
    go exists true r h k = (false, sym h)
    go exists false r h k = (true, sym k)
    go for_all true r h k = (true, sym k)
    go for_all false r h k = (false, sym h)

join_cong : (q : Quantifier) (a c : Bool → Bool)
    → ((b : Bool) → a b ≡ c b) → join q (a false) (a true) ≡ join q (c false) (c true)
join_cong q a c h = ap₂ (join q) (h false) (h true)

-- A valuation within reach that has the deciding value decides.
pub quant_reach : (q : Quantifier) (xs : List ℕ) (f : Valuation → Bool) (v u : Valuation)
    → DiffersAtMostAt xs v u → f u ≡ decides q → quant q xs f v ≡ decides q
unfolding quant mem
quant_reach q [] f v u out h = ap f (fun_ext (λ y. out y refl)) ∙ h
quant_reach q (x ∷ xs) f v u out h =
    join_reach q (λ b. quant q xs f (update v x b)) (u x)
    (quant_reach q xs f (update v x (u x)) u (outside_tail x xs v u out) h)

-- The value is that at some valuation within reach.
pub quant_attain : (q : Quantifier) (xs : List ℕ) (f : Valuation → Bool) (v : Valuation)
    → (u : Valuation) × DiffersAtMostAt xs v u × (quant q xs f v ≡ f u)
unfolding quant
quant_attain q [] f v = (v, λ y m. refl, refl)
quant_attain q (x ∷ xs) f v =
    let j = join_attain q (λ b. quant q xs f (update v x b)) in
    let r = quant_attain q xs f (update v x j.0) in
    (r.0, outside_cons x j.0 xs v r.0 r.1, j.1 ∙ r.2)

pub quant_append : (q : Quantifier) (xs ys : List ℕ) (f : Valuation → Bool) (v : Valuation)
    → quant q (xs ++ ys) f v ≡ quant q xs (quant q ys f) v
unfolding quant
quant_append q [] ys f v = refl
quant_append q (x ∷ xs) ys f v = join_cong q _ _ (λ b. quant_append q xs ys f (update v x b))

pub quant_cong : (q : Quantifier) (xs : List ℕ) (f g : Valuation → Bool) (v : Valuation)
    → ((u : Valuation) → f u ≡ g u) → quant q xs f v ≡ quant q xs g v
quant_cong q xs f g v h = ap (λ k. quant q xs k v) (fun_ext h)

-- Blocks, and then more.
pub quantify_append : (bs cs : List Block) (f : Valuation → Bool) (v : Valuation) → quantify (bs ++ cs) f v ≡ quantify bs (quantify cs f) v
unfolding quantify
quantify_append [] cs f v = refl
quantify_append (b ∷ bs) cs f v =
    quant_cong b.quantifier b.variables (quantify (bs ++ cs) f) (quantify bs (quantify cs f)) v (quantify_append bs cs f)

-- Two functions under one list, from two valuations.
pub quant_same : (q : Quantifier) (xs : List ℕ) (f g : Valuation → Bool) (v u : Valuation)
    → ((v' u' : Valuation) → Inside xs v' u' → DiffersAtMostAt xs v' v → DiffersAtMostAt xs u' u → f v' ≡ g u')
    → quant q xs f v ≡ quant q xs g u
unfolding quant mem
quant_same q [] f g v u same = same v u (λ y m. clash m refl) (λ y m. refl) (λ y m. refl)
quant_same q (x ∷ xs) f g v u same =
    join_cong q (λ b. quant q xs f (update v x b)) (λ b. quant q xs g (update u x b))
    (λ b. quant_same q xs f g (update v x b) (update u x b)
    (λ v' u' i ov ou. same v' u' (inside_cons x b xs v u v' u' i ov ou) (outside_cons' x b xs v v' ov) (outside_cons' x b xs u u' ou)))

-- A number that is not in xs keeps its value.
kept : (x : ℕ) (b : Bool) (xs : List ℕ) (v v' : Valuation)
    → distinct (x ∷ xs) ≡ true → DiffersAtMostAt xs v' (update v x b) → v' x ≡ b
unfolding distinct
kept x b xs v v' d out = out x (not-true (mem x xs) (and_left (not (mem x xs)) (distinct xs) d)) ∙ update_same v x b

-- Equal values at equal places of the tails, and at the heads, are equal values at equal places.
places_cons : (x y : ℕ) (xs ys : List ℕ) (v w : Valuation)
    → v x ≡ w y → ((k : ℕ) → k < length xs → v (get_or xs k 0) ≡ w (get_or ys k 0))
    → (k : ℕ) → k < length (x ∷ xs) → v (get_or (x ∷ xs) k 0) ≡ w (get_or (y ∷ ys) k 0)
places_cons x y xs ys v w e r zero l = e
places_cons x y xs ys v w e r (suc k) l = r k (le_of_suc-le-suc l)

-- Two functions under two lists of one length, related place by place.
pub quant_two : (q : Quantifier) (xs ys : List ℕ) → length xs ≡ length ys → distinct xs ≡ true → distinct ys ≡ true
    → (f g : Valuation → Bool) (v w : Valuation)
    → ((v' w' : Valuation) → ((k : ℕ) → k < length xs → v' (get_or xs k 0) ≡ w' (get_or ys k 0))
    → DiffersAtMostAt xs v' v → DiffersAtMostAt ys w' w → f v' ≡ g w')
    → quant q xs f v ≡ quant q ys g w
unfolding quant
quant_two q [] [] e dx dy f g v w same = same v w (λ k l. absurd (not-suc-le-zero l)) (λ y m. refl) (λ y m. refl)
quant_two q [] (y ∷ ys) e dx dy f g v w same = absurd (omega arith)
quant_two q (x ∷ xs) [] e dx dy f g v w same = absurd (omega arith)
quant_two q (x ∷ xs) (y ∷ ys) e dx dy f g v w same =
    join_cong q (λ b. quant q xs f (update v x b)) (λ b. quant q ys g (update w y b))
    (λ b. quant_two q xs ys (omega arith) (distinct_tail x xs dx) (distinct_tail y ys dy) f g (update v x b) (update w y b)
    (λ v' w' p ov ow. same v' w'
    (places_cons x y xs ys v' w' (kept x b xs v v' dx ov ∙ sym (kept y b ys w w' dy ow)) p)
    (outside_cons' x b xs v v' ov) (outside_cons' y b ys w w' ow)))
