-- The nodes that stay, in order: node `left_below ws i` of the words without empty blocks is node i, if it stays, with each operand and
-- body at its new index.
-- Assumes nothing.
use mathlib.Core.Path.{◌≡◌, refl, sym, ◌∙◌, ap, subst}
use mathlib.Core.Bool.{true, false}
use mathlib.Core.List.{List, [], ◌++◌, append_assoc}
use Prim.Native.Nat.{ℕ, zero, suc, ◌+◌, ◌-◌, ◌*◌, ◌<◌}
use native.Mathlib.Omega.{arith}
use lib.Dec.{ltb}
use lib.ListN.{length, get_or, length-append}
use lib.Seq.{get_or-append-add}
use borrow.Author.Tests.{ltb-true, ltb-false}
use Rattle.lists.specs.Choice.{pick, pick_yes, pick_no, Is, is_true, is_false, look}
use Rattle.lists.specs.Parts.{sum, up_to}
use Rattle.lists.proofs.Parts.{up_to_split, sum_grows}
use Rattle.formula.specs.Words.{width, node_count, field, words_at, word_list}
use Rattle.formula.proofs.Nodes.{word_list-length, words_first}
use Rattle.empty_blocks.specs.Removal.{stays, left_below, new_index, renumbered, left_of, without_empty_blocks}

-- the node below node n that has index k among those that stay
record LeftAt (ws : List ℕ) (n k : ℕ) : Type 0 where
  node : ℕ
  below : node < n
  left : stays ws node ≡ true
  place : left_below ws node ≡ k

module _ (ws : List ℕ) where
  -- How many stay, by one node more.

  pub left_more : (i : ℕ) → stays ws i ≡ true → left_below ws (suc i) ≡ suc (left_below ws i)
  unfolding left_below sum
  left_more i s = omega (arith, pick_yes {A = ℕ} (stays ws i) 1 0 s)

  pub left_same : (i : ℕ) → stays ws i ≡ false → left_below ws (suc i) ≡ left_below ws i
  unfolding left_below sum
  left_same i s = omega (arith, pick_no {A = ℕ} (stays ws i) 1 0 s)

  pub left_order : (i j : ℕ) → stays ws i ≡ true → i < j → left_below ws i < left_below ws j
  unfolding left_below
  left_order i j s h = omega (arith, left_more i s, sum_grows (λ j. pick (stays ws j) 1 0) (suc i) j h)

  left_at : (n k : ℕ) → k < left_below ws n → LeftAt ws n k
  unfolding left_below sum
  left_at zero k h = absurd (omega arith)
  left_at (suc n) k h = go (look (stays ws n)) (look (ltb k (left_below ws n))) (left_at n k)
    where
      go : Is (stays ws n) → Is (ltb k (left_below ws n)) → (k < left_below ws n → LeftAt ws n k) → LeftAt ws (suc n) k
      go _ (is_true t) lower =
          let r = lower (ltb-true _ _ t) in record { node = r.node; below = omega (arith, r.below); left = r.left; place = r.place }
      go (is_true s) (is_false t) lower =
          record { node = n; below = omega arith; left = s; place = omega (arith, ltb-false k (left_below ws n) t, left_more n s) }
      go (is_false s) (is_false t) lower = absurd (omega (arith, ltb-false k (left_below ws n) t, left_same n s))

  -- a sum over the nodes that stay, as one over all nodes
  pub sum_left : (f g : ℕ → ℕ) (n : ℕ) → ((i : ℕ) → i < n → stays ws i ≡ true → f (left_below ws i) ≡ g i)
      → sum f (left_below ws n) ≡ sum (λ i. pick (stays ws i) (g i) 0) n
  unfolding sum left_below
  sum_left f g zero same = refl
  sum_left f g (suc n) same = go (look (stays ws n)) (sum_left f g n (λ i h. same i (omega arith)))
    where
      go : Is (stays ws n) → sum f (left_below ws n) ≡ sum (λ i. pick (stays ws i) (g i) 0) n
          → sum f (left_below ws (suc n)) ≡ sum (λ i. pick (stays ws i) (g i) 0) n + pick (stays ws n) (g n) 0
      go (is_true s) rest =
          rw (left_more n s) (omega (arith, rest, same n (omega arith) s, pick_yes {A = ℕ} (stays ws n) (g n) 0 s))
      go (is_false s) rest = rw (left_same n s) (omega (arith, rest, pick_no {A = ℕ} (stays ws n) (g n) 0 s))

  -- The words written are whole nodes.

  pub left_of_lem : (i : ℕ) → stays ws i ≡ true → left_of ws i ≡ word_list (renumbered (new_index ws) (words_at ws i))
  unfolding left_of
  left_of_lem i s = pick_yes _ _ _ s

  pub gone_of : (i : ℕ) → stays ws i ≡ false → left_of ws i ≡ []
  unfolding left_of
  gone_of i s = pick_no _ _ _ s

  pub length_left : (n : ℕ) → length (up_to (left_of ws) n) ≡ width * left_below ws n
  unfolding up_to left_below sum
  length_left zero = refl
  length_left (suc n) = length-append (up_to (left_of ws) n) (left_of ws n) ∙ go (look (stays ws n)) (length_left n)
    where
      go : Is (stays ws n) → length (up_to (left_of ws) n) ≡ width * left_below ws n
          → length (up_to (left_of ws) n) + length (left_of ws n) ≡ width * left_below ws (suc n)
      go (is_true s) rest =
          let one : length (left_of ws n) ≡ width = rw (left_of_lem n s) (word_list-length _) in omega (arith, left_more n s)
      go (is_false s) rest =
          let none : length (left_of ws n) ≡ 0 = rw (gone_of n s) in omega (arith, left_same n s)

  pub left_count : node_count (without_empty_blocks ws) ≡ left_below ws (node_count ws)
  unfolding without_empty_blocks
  left_count = omega (arith, length_left (node_count ws))

  -- what holds of each node that stays, at its new index, holds of each node left
  pub each_left : (P : ℕ → Type 0) → ((i : ℕ) → i < node_count ws → stays ws i ≡ true → P (left_below ws i))
      → (k : ℕ) → k < node_count (without_empty_blocks ws) → P k
  each_left P holds k h =
      let r = left_at (node_count ws) k (rw left_count at h) in subst P r.place (holds r.node r.below r.left)

-- the words of node k, in front of which stand the words of k nodes
field_behind : (xs ys : List ℕ) (k f : ℕ) → length xs ≡ width * k → field (xs ++ ys) k f ≡ field ys 0 f
unfolding field
field_behind xs ys k f e =
    let p : width * k + f ≡ length xs + (width * 0 + f) = omega arith in
    ap (λ (m : ℕ). get_or (xs ++ ys) m 0) p ∙ get_or-append-add xs ys (width * 0 + f) 0

words_behind : (xs ys : List ℕ) (k : ℕ) → length xs ≡ width * k → words_at (xs ++ ys) k ≡ words_at ys 0
words_behind xs ys k e = rw (field_behind xs ys k 0 e, field_behind xs ys k 1 e, field_behind xs ys k 2 e, field_behind xs ys k 3 e)

module _ (ws : List ℕ) (i : ℕ) (h : i < node_count ws) (s : stays ws i ≡ true) where
  written : (rest : List ℕ) × (without_empty_blocks ws ≡ up_to (left_of ws) i ++ (word_list (renumbered (new_index ws) (words_at ws i)) ++ rest))
  unfolding without_empty_blocks up_to
  written =
      let r = up_to_split (left_of ws) (suc i) (node_count ws - suc i) in
      let n : node_count ws - suc i + suc i ≡ node_count ws = omega arith in
      (r.0, ap (up_to (left_of ws)) (sym n) ∙ r.1 ∙ rw (left_of_lem ws i s) (append_assoc (up_to (left_of ws) i) _ r.0))

  pub left_words : words_at (without_empty_blocks ws) (left_below ws i) ≡ renumbered (new_index ws) (words_at ws i)
  left_words =
      let w = renumbered (new_index ws) (words_at ws i) in
      let r = written in
      rw r.1 (words_behind (up_to (left_of ws) i) (word_list w ++ r.0) (left_below ws i) (length_left ws i) ∙ words_first w r.0)
