-- The blocks of a level, in the order in which its chain names them.
-- Assumes nothing.
use mathlib.Core.Path.{◌≡◌, refl, sym, ◌∙◌, ap}
use mathlib.Core.Bool.{Bool, true, false}
use mathlib.Core.List.{List, [], ◌∷◌, ◌++◌, append_assoc, append-nil}
use Prim.Native.Nat.{ℕ, zero, suc, ◌+◌, ◌-◌, ◌≤◌, ◌<◌}
use native.Mathlib.Omega.{arith}
use lib.Dec.{eqb, ltb}
use Rattle.std.proofs.Common.{Option, Some, None, IfSome}
use Rattle.std.specs.Option.{SomeIff}
use borrow.Author.Tests.{ltb-true, ltb-false, eqb-true}
use Rattle.lists.specs.Choice.{pick, pick_yes, pick_no, Is, is_true, is_false, look, and_left, and_right}
use Rattle.lists.specs.Parts.{up_to}
use Rattle.formula.specs.Node.{Table}
use Rattle.prenex_form.specs.Scope.{inner, level}
use Rattle.prenex_form.specs.Levels.{blocks_at}
use Rattle.arrays.specs.Link.{link}
use Rattle.arrays.specs.Held.{at_level}
use Rattle.arrays.specs.Chains.{parts_from, between, blocks_from, linked, BlockOf}
use Rattle.arrays.proofs.Link.{link_some, link_none}

-- Lists put together from parts, from the front.

module _ {ℓ} {A : Type ℓ} where
  parts_last : (g : ℕ → List A) (i k : ℕ) → parts_from g i (suc k) ≡ parts_from g i k ++ g (i + k)
  unfolding parts_from
  parts_last g i zero = let e : i ≡ i + 0 = omega arith in ap (λ (j : ℕ). g j ++ []) e ∙ append-nil (g (i + 0))
  parts_last g i (suc k) =
      let e : suc i + k ≡ i + suc k = omega arith in
      ap (λ (l : List A). g i ++ l) (parts_last g (suc i) k ∙ ap (λ (j : ℕ). parts_from g (suc i) k ++ g j) e)
      ∙ sym (append_assoc (g i) (parts_from g (suc i) k) (g (i + suc k)))

  all_parts : (g : ℕ → List A) (n : ℕ) → up_to g n ≡ parts_from g 0 n
  unfolding up_to parts_from
  all_parts g zero = refl
  all_parts g (suc n) =
      let e : n ≡ 0 + n = omega arith in
      ap (λ (l : List A). l ++ g n) (all_parts g n) ∙ ap (λ (j : ℕ). parts_from g 0 n ++ g j) e ∙ sym (parts_last g 0 n)

  pub between_all : (g : ℕ → List A) (n : ℕ) → between g 0 n ≡ up_to g n
  unfolding between
  between_all g n = let e : n - 0 ≡ n = omega arith in ap (parts_from g 0) e ∙ sym (all_parts g n)

  pub between_on : (g : ℕ → List A) (i n : ℕ) → i < n → between g i n ≡ g i ++ between g (suc i) n
  unfolding between parts_from
  between_on g i n h = let e : n - i ≡ suc (n - suc i) = omega arith in ap (parts_from g i) e

  pub between_end : (g : ℕ → List A) (i n : ℕ) → n ≤ i → between g i n ≡ []
  unfolding between parts_from
  between_end g i n h = let e : n - i ≡ 0 = omega arith in ap (parts_from g i) e

-- The parts from i up, and below n, of the numbers that pass a test.

module _ {ℓ} {A : Type ℓ} (p : ℕ → Bool) (g : ℕ → List A) where
  abbrev one : ℕ → List A
  one j = pick (p j) (g j) []

  abbrev passing : ℕ → ℕ → List A
  passing i n = between one i n

  passing_here : (i n : ℕ) → i < n → p i ≡ true → passing i n ≡ g i ++ passing (suc i) n
  passing_here i n h e = between_on one i n h ∙ ap (λ (l : List A). l ++ passing (suc i) n) (pick_yes _ _ _ e)

  passing_skip : (i n : ℕ) → i < n → p i ≡ false → passing i n ≡ passing (suc i) n
  passing_skip i n h e = between_on one i n h ∙ ap (λ (l : List A). l ++ passing (suc i) n) (pick_no _ _ _ e)

  -- k numbers that fail it
  passing_from : (i k n : ℕ) → i + k ≤ n → ((j : ℕ) → i ≤ j → j < i + k → p j ≡ false) → passing i n ≡ passing (i + k) n
  passing_from i zero n h f = let e : i ≡ i + 0 = omega arith in ap (λ (j : ℕ). passing j n) e
  passing_from i (suc k) n h f =
      let e : suc i + k ≡ i + suc k = omega arith in
      passing_skip i n (omega arith) (f i (omega arith) (omega arith))
      ∙ passing_from (suc i) k n (omega arith) (λ j a b. f j (omega arith) (omega arith))
      ∙ ap (λ (j : ℕ). passing j n) e

  pub passing_none : (i n : ℕ) → link p i n ≡ 0 → passing i n ≡ []
  passing_none i n e = go (look (ltb i n))
    where
      go : Is (ltb i n) → passing i n ≡ []
      go (is_true t) =
          let l = ltb-true i n t in
          let s : i + (n - i) ≡ n = omega arith in
          passing_from i (n - i) n (omega arith) (λ j a b. link_none p i n e j a (omega arith)) ∙ between_end one (i + (n - i)) n (omega arith)
      go (is_false t) = between_end one i n (ltb-false i n t)

  pub passing_some : (i n b : ℕ) → link p i n ≡ suc b → passing i n ≡ g b ++ passing (suc b) n
  passing_some i n b e =
      let r = link_some p i n b e in
      let s : i + (b - i) ≡ b = omega (arith, r.reached) in
      passing_from i (b - i) n (omega (arith, r.below)) (λ j x y. r.between j x (omega arith))
      ∙ ap (λ (j : ℕ). passing j n) s ∙ passing_here b n r.below r.passes

module _ (t : Table) (l : ℕ) where
  pub blocks_from-all : blocks_from t l 0 ≡ blocks_at t l
  unfolding blocks_from blocks_at
  blocks_from-all = between_all (λ j. pick (at_level t l j) (j ∷ []) []) t.size

  pub blocks_from-none : (i : ℕ) → link (at_level t l) i t.size ≡ 0 → blocks_from t l i ≡ []
  unfolding blocks_from
  blocks_from-none i e = passing_none (at_level t l) (λ j. j ∷ []) i t.size e

  pub blocks_from-some : (i b : ℕ) → link (at_level t l) i t.size ≡ suc b → blocks_from t l i ≡ b ∷ blocks_from t l (suc b)
  unfolding blocks_from
  blocks_from-some i b e = passing_some (at_level t l) (λ j. j ∷ []) i t.size b e

  -- what an array holds at a link: 0 for no block, else one more than the block with which the level goes on from node i
  module _ (i k : ℕ) (e : k ≡ link (at_level t l) i t.size) where
    pub link_block : (named : Option ℕ) → SomeIff named (1 ≤ k) (k - 1) → IfSome named (BlockOf t l)
    link_block None h = tt
    link_block (Some b) h =
        let f : k ≡ suc b = omega arith in
        let r = link_some (at_level t l) i t.size b (sym e ∙ f) in
        record {
          block = record { below = r.below; is_inner = and_left _ (eqb (level t b) l) r.passes };
          level_is = eqb-true (level t b) l (and_right (inner t b) _ r.passes);
        }

    pub link_blocks : (named : Option ℕ) → SomeIff named (1 ≤ k) (k - 1) → linked t l named ≡ blocks_from t l i
    link_blocks None h = let z : k ≡ 0 = omega arith in sym (blocks_from-none i (sym e ∙ z))
    link_blocks (Some b) h = let f : k ≡ suc b = omega arith in sym (blocks_from-some i b (sym e ∙ f))

-- the same of the block after one of the level
pub next_of_level : {t : Table} {l b : ℕ} (next : Option ℕ) → BlockOf t l b → IfSome next (BlockOf t (level t b)) → linked t (level t b) next ≡ blocks_from t (level t b) (suc b)
    → IfSome next (BlockOf t l) × (linked t l next ≡ blocks_from t l (suc b))
next_of_level next o p q = (rw o.level_is at p, rw o.level_is at q)
