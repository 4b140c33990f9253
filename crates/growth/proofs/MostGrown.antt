-- The file that grew most: the laws of specs/Laws.antt, and what one file more makes of its growth.
-- Assumes nothing.
use mathlib.Core.Path.{◌≡◌, refl, sym, ap, ◌∙◌, subst}
use mathlib.Core.Bool.{Bool, true, false, ◌&&◌}
use Prim.Native.Nat.{ℕ, zero, suc, ◌+◌, ◌*◌, ◌≤◌, ◌<◌}
use native.Mathlib.Nat.{mul-le-mul_right, mul-lt-mul_of_pos_right, lt_of_mul-lt-mul_right, mul_right_comm, lt_of_le_of_lt}
use native.Mathlib.Numerals.{add-one}
use native.Mathlib.Omega.{arith}
use lib.Dec.{ltb}
use borrow.Author.Count.{below_more}
use borrow.Author.Tests.{ltb-true, ltb-false, lt-ltb, le-ltb, not-true}
use Rattle.lists.specs.Choice.{pick, pick_yes, pick_no, Is, is_true, is_false, look, clash, absent, and_left, and_right, and_both}
use Rattle.lists.specs.Search.{lowest, some_below}
use Rattle.lists.proofs.Search.{lowest_before, lowest_is, lowest_none}
use Rattle.growth.specs.declared.Growth.{Growth}
use Rattle.growth.specs.Growth.{no_growth, takes_part, less, unsurpassed, most_grown, most_growth}
use Rattle.growth.specs.Laws.{GrewMost, MostGrewMost, OnlyMost, NoneMost}
use Rattle.growth.specs.Steps.{more_grown}

-- Fractions are compared by products, in whichever order the definition has the factors.
less_products : (g h : Growth) → less g h ≡ ltb (g.written * h.input) (h.written * g.input)
unfolding less
less_products g h = go (look (less g h))
  where
    go : Is (less g h) → less g h ≡ ltb (g.written * h.input) (h.written * g.input)
    go (is_true t) = t ∙ sym (lt-ltb (g.written * h.input) (h.written * g.input) (omega (arith, ltb-true)))
    go (is_false t) = t ∙ sym (le-ltb (g.written * h.input) (h.written * g.input) (omega (arith, ltb-false)))

-- A test that passes exactly if the products say so is `less`.
pub compared : (g h : Growth) (t : Bool) → (t ≡ true → g.written * h.input < h.written * g.input)
    → (t ≡ false → h.written * g.input ≤ g.written * h.input)
    → t ≡ less g h
compared g h true more most = sym (less_products g h ∙ lt-ltb _ _ (more refl))
compared g h false more most = sym (less_products g h ∙ le-ltb _ _ (most refl))

part_yes : (g : Growth) → 0 < g.input → takes_part g ≡ true
unfolding takes_part
part_yes g h = lt-ltb _ _ h

part_no : (g : Growth) → g.input ≡ 0 → takes_part g ≡ false
unfolding takes_part
part_no g h = le-ltb 0 g.input (omega arith)

-- What `more_grown` chooses.
module _ (most here : Growth) where
  pub more_no_part : here.input ≡ 0 → more_grown most here ≡ most
  unfolding more_grown
  more_no_part out = rw (part_no here out) (pick_no _ here most refl)

  pub more_first : 0 < here.input → most.input ≡ 0 → more_grown most here ≡ here
  unfolding more_grown
  more_first part none = rw (part_yes here part, part_no most none) (pick_yes _ here most refl)

  pub more_compared : 0 < here.input → 0 < most.input → more_grown most here ≡ pick (less most here) here most
  unfolding more_grown
  more_compared part before = rw (part_yes here part, part_yes most before)

-- a / m is at most b / n, and that is less than d / p.
less_through : (a m b n d p : ℕ) → 0 < m → a * n ≤ b * m → b * p < d * n → a * p < d * m
less_through a m b n d p pos h g =
    let first : a * p * n ≤ b * p * m = rw (mul_right_comm a p n, mul_right_comm b p m) (mul-le-mul_right p h) in
    let second : b * p * m < d * m * n = rw (mul_right_comm d m n) (mul-lt-mul_of_pos_right g pos) in
    lt_of_mul-lt-mul_right n (lt_of_le_of_lt first second)

module _ (gs : ℕ → Growth) where
  -- What tests say of files.
  grew_less : (i j : ℕ) → less (gs i) (gs j) ≡ true → (gs i).written * (gs j).input < (gs j).written * (gs i).input
  grew_less i j t = ltb-true _ _ (sym (less_products (gs i) (gs j)) ∙ t)

  grew_no_less : (i j : ℕ) → less (gs i) (gs j) ≡ false → (gs j).written * (gs i).input ≤ (gs i).written * (gs j).input
  grew_no_less i j t = ltb-false _ _ (sym (less_products (gs i) (gs j)) ∙ t)

  less_grew : (i j : ℕ) → (gs i).written * (gs j).input < (gs j).written * (gs i).input → less (gs i) (gs j) ≡ true
  less_grew i j l = less_products (gs i) (gs j) ∙ lt-ltb _ _ l

  takes : (i : ℕ) → takes_part (gs i) ≡ true → 0 < (gs i).input
  unfolding takes_part
  takes i t = ltb-true _ _ t

  -- A file that grew more than file i.
  abbrev surpasses : ℕ → ℕ → Bool
  surpasses i j = takes_part (gs j) && less (gs i) (gs j)

  module _ (n : ℕ) where
    most_unsurpassed : (i : ℕ) → GrewMost gs n i → unsurpassed gs n i ≡ true
    unfolding unsurpassed some_below
    most_unsurpassed i m =
        let none : (j : ℕ) → j < n → surpasses i j ≡ false =
        λ j l. absent _ (λ t.
        let part = takes j (and_left _ _ t) in
        omega (arith, m.none_more j l part, grew_less i j (and_right (takes_part (gs j)) _ t))) in
        let no : some_below (surpasses i) n ≡ false = le-ltb (lowest (surpasses i) n) n (omega (arith, lowest_none (surpasses i) n none)) in
        and_both _ _ (part_yes (gs i) m.takes_part_lem) (rw no)

    before_surpassed : (i : ℕ) → GrewMost gs n i → (j : ℕ) → j < i → unsurpassed gs n j ≡ false
    unfolding unsurpassed some_below
    before_surpassed i m j l =
        absent _ (λ t.
        let none : some_below (surpasses j) n ≡ false = not-true _ (and_right (takes_part (gs j)) _ t) in
        let end : n ≤ lowest (surpasses j) n = ltb-false _ _ none in
        let more = less_grew j i (m.none_before j l (takes j (and_left _ _ t))) in
        let no : surpasses j i ≡ false = lowest_before (surpasses j) n i (omega (arith, m.inside)) in
        clash (and_both _ _ (part_yes (gs i) m.takes_part_lem) more) no)

pub only_most : OnlyMost
unfolding most_grown
only_most gs n i m = lowest_is (unsurpassed gs n) n i m.inside (most_unsurpassed gs n i m) (before_surpassed gs n i m)

pub none_most : NoneMost
unfolding most_grown unsurpassed
none_most gs n none = lowest_none (unsurpassed gs n) n (λ i l. absent _ (λ t. none i l (takes gs i (and_left _ _ t))))

-- The growth of the file that grew most of n.
data Most (gs : ℕ → Growth) (n : ℕ) : Growth → Type 0 where
  none : ((i : ℕ) → i < n → 0 < (gs i).input → ⊥) → Most gs n no_growth
  file : (best : ℕ) → GrewMost gs n best → Most gs n (gs best)

-- There is one at most,
only : (gs : ℕ → Growth) (n : ℕ) (g : Growth) → Most gs n g → most_growth gs n ≡ g
unfolding most_growth
only gs n _ (none h) = rw (none_most gs n h) (pick_no _ _ _ (le-ltb n n (omega arith)))
only gs n _ (file best m) = rw (only_most gs n best m) (pick_yes _ _ _ (lt-ltb best n m.inside))

-- one file more makes `more_grown` of it,
module _ (gs : ℕ → Growth) (i : ℕ) where
  abbrev AtMost : ℕ → ℕ → Type 0
  AtMost best j = 0 < (gs j).input → (gs j).written * (gs best).input ≤ (gs best).written * (gs j).input

  kept : (best : ℕ) → GrewMost gs i best → AtMost best i → GrewMost gs (i + 1) best
  kept best m here =
      record {
        inside = omega (arith, m.inside);
        takes_part_lem = m.takes_part_lem;
        none_more = below_more (AtMost best) i m.none_more here;
        none_before = m.none_before;
      }

  new : 0 < (gs i).input → ((j : ℕ) → j < i → 0 < (gs j).input → (gs j).written * (gs i).input < (gs i).written * (gs j).input)
      → GrewMost gs (i + 1) i
  new part before =
      record {
        inside = omega arith;
        takes_part_lem = part;
        none_more = below_more (AtMost i) i (λ j l p. omega (arith, before j l p)) (λ p. omega arith);
        none_before = before;
      }

  no_part : {g : Growth} → (gs i).input ≡ 0 → Most gs i g → Most gs (i + 1) g
  no_part out (none h) = none (below_more (λ j. 0 < (gs j).input → ⊥) i h (λ p. omega arith))
  no_part out (file best m) = file best (kept best m (λ p. absurd (omega arith)))

  part_first : ((j : ℕ) → j < i → 0 < (gs j).input → ⊥) → 0 < (gs i).input → Most gs (i + 1) (more_grown no_growth (gs i))
  unfolding no_growth
  part_first h part =
      rw (more_first no_growth (gs i) part refl) (file i (new part (λ j l p. absurd (h j l p))))

  part_next : (best : ℕ) → GrewMost gs i best → 0 < (gs i).input → Is (less (gs best) (gs i))
      → Most gs (i + 1) (more_grown (gs best) (gs i))
  part_next best m part (is_true t) =
      rw (more_compared (gs best) (gs i) part m.takes_part_lem, pick_yes (less (gs best) (gs i)) (gs i) (gs best) t)
      (file i (new part (λ j l p. less_through _ _ _ _ _ _ p (m.none_more j l p) (grew_less gs best i t))))
  part_next best m part (is_false t) =
      rw (more_compared (gs best) (gs i) part m.takes_part_lem, pick_no (less (gs best) (gs i)) (gs i) (gs best) t)
      (file best (kept best m (λ p. grew_no_less gs best i t)))

  part_any : {g : Growth} → 0 < (gs i).input → Most gs i g → Most gs (i + 1) (more_grown g (gs i))
  part_any part (none h) = part_first h part
  part_any part (file best m) = part_next best m part (look (less (gs best) (gs i)))

  next : {g : Growth} → Most gs i g → Most gs (i + 1) (more_grown g (gs i))
  next {g} m = go (look (ltb 0 (gs i).input))
    where
      go : Is (ltb 0 (gs i).input) → Most gs (i + 1) (more_grown g (gs i))
      go (is_true t) = part_any (ltb-true _ _ t) m
      go (is_false t) =
          let out : (gs i).input ≡ 0 = omega (arith, ltb-false 0 (gs i).input t) in
          rw (more_no_part g (gs i) out) (no_part out m)

-- and so there is one.
one : (gs : ℕ → Growth) (n : ℕ) → (g : Growth) × Most gs n g
one gs zero = (no_growth, none (λ i l p. omega arith))
one gs (suc n) =
    let r = one gs n in
    let g = more_grown r.0 (gs n) in (g, subst (λ k. Most gs k g) (add-one n) (next gs n r.1))

pub grew_most : MostGrewMost
grew_most gs n i l p = go (one gs n).1
  where
    go : {g : Growth} → Most gs n g → GrewMost gs n (most_grown gs n)
    go (none h) = absurd (h i l p)
    go (file best m) = rw (only_most gs n best m) m

pub most_start : (gs : ℕ → Growth) → most_growth gs 0 ≡ no_growth
most_start gs = only gs 0 no_growth (none (λ i l p. omega arith))

pub most_next : (gs : ℕ → Growth) (i : ℕ) → most_growth gs (i + 1) ≡ more_grown (most_growth gs i) (gs i)
most_next gs i =
    let r = one gs i in
    only gs (i + 1) _ (next gs i r.1) ∙ ap (λ g. more_grown g (gs i)) (sym (only gs i _ r.1))
