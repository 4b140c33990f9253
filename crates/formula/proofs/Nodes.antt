-- Which node the words of a table make at each kind, and which kinds make blocks.
-- Assumes nothing.
use mathlib.Core.Path.{◌≡◌, refl, sym, ◌∙◌, ap}
use mathlib.Core.Bool.{Bool, true, false}
use mathlib.Core.List.{List, ◌++◌}
use Prim.Native.Nat.{ℕ, zero, suc, ◌+◌, ◌*◌, ◌≤◌, ◌<◌}
use native.Mathlib.Omega.{arith}
use lib.Dec.{eqb}
use lib.ListN.{length, get_or, get_or-eq_default}
use borrow.Author.Tests.{ne_eqb}
use Rattle.lists.specs.Choice.{pick, clash}
use Rattle.formula.specs.Node.{Quantifier, exists, for_all, Node, constant, variable, negation, operator, block, is_block}
use Rattle.formula.specs.Truth.{digit}
use Rattle.formula.specs.Words.{width, node_count, field, is_block_kind, range, words_at, node_of, words_of, block_words, word_list, node_at}
use Rattle.formula.specs.declared.NodeWords.{NodeWords}
use Rattle.formula.specs.Form.{quantifier_of, kind_of}

-- The words of a node, read back.

digit_back : (b : Bool) → eqb (digit b) 1 ≡ b
unfolding digit
digit_back true = refl
digit_back false = refl

pub words_node : (ls : List ℕ) (nd : Node) → is_block nd ≡ false → node_of ls (words_of nd) ≡ nd
unfolding words_of node_of pick is_block
words_node ls (constant b) h = ap constant (digit_back b)
words_node ls (variable x) h = refl
words_node ls (negation a) h = refl
words_node ls (operator f a b) h = refl
words_node ls (block q xs a) h = clash refl h

-- The words of a block.
pub block_words_node : (ls : List ℕ) (q : Quantifier) (first count body : ℕ) → node_of ls (block_words (kind_of q) first count body) ≡ block q (range ls first count) body
unfolding block_words kind_of node_of pick
block_words_node ls exists first count body = refl
block_words_node ls for_all first count body = refl

-- No other node has the kind of a block.
pub words_plain : (nd : Node) → is_block_kind (words_of nd).kind ≡ false
unfolding words_of is_block_kind
words_plain (constant b) = refl
words_plain (variable x) = refl
words_plain (negation a) = refl
words_plain (operator f a b) = refl
words_plain (block q xs a) = refl

pub block_kind_of : (q : Quantifier) → is_block_kind (kind_of q) ≡ true
unfolding kind_of is_block_kind
block_kind_of exists = refl
block_kind_of for_all = refl

pub word_list-length : (w : NodeWords) → length (word_list w) ≡ width
unfolding word_list
word_list-length w = refl

-- the words that stand first, and those of the nodes after them
pub words_first : (w : NodeWords) (ws : List ℕ) → words_at (word_list w ++ ws) 0 ≡ w
unfolding word_list field
words_first w ws = refl

field_after : (w : NodeWords) (ws : List ℕ) (i f : ℕ) → field (word_list w ++ ws) (suc i) f ≡ field ws i f
unfolding word_list field
field_after w ws i f =
    let e : width * suc i + f ≡ suc (suc (suc (suc (width * i + f)))) = omega arith in
    ap (λ (k : ℕ). get_or (word_list w ++ ws) k 0) e

pub words_after : (w : NodeWords) (ws : List ℕ) (i : ℕ) → words_at (word_list w ++ ws) (suc i) ≡ words_at ws i
words_after w ws i = rw (field_after w ws i 0, field_after w ws i 1, field_after w ws i 2, field_after w ws i 3)

-- A word is one of the six kinds, or none.
pub data Kind (k : ℕ) : Type 0 where
  kind_constant : k ≡ 1 → Kind k
  kind_variable : k ≡ 2 → Kind k
  kind_negation : k ≡ 3 → Kind k
  kind_operator : k ≡ 4 → Kind k
  kind_exists : k ≡ 5 → Kind k
  kind_for_all : k ≡ 6 → Kind k
  kind_none : eqb k 1 ≡ false → eqb k 2 ≡ false → eqb k 3 ≡ false → eqb k 4 ≡ false → eqb k 5 ≡ false → eqb k 6 ≡ false → Kind k

above : (n k : ℕ) → k < 7 → eqb (suc (suc (suc (suc (suc (suc (suc n))))))) k ≡ false
above n k h = ne_eqb (suc (suc (suc (suc (suc (suc (suc n))))))) k (λ e. omega arith)

pub kind_of_lem : (k : ℕ) → Kind k
kind_of_lem zero = kind_none refl refl refl refl refl refl
kind_of_lem (suc zero) = kind_constant refl
kind_of_lem (suc (suc zero)) = kind_variable refl
kind_of_lem (suc (suc (suc zero))) = kind_negation refl
kind_of_lem (suc (suc (suc (suc zero)))) = kind_operator refl
kind_of_lem (suc (suc (suc (suc (suc zero))))) = kind_exists refl
kind_of_lem (suc (suc (suc (suc (suc (suc zero)))))) = kind_for_all refl
kind_of_lem (suc (suc (suc (suc (suc (suc (suc n))))))) =
    kind_none (above n 1 (omega arith)) (above n 2 (omega arith)) (above n 3 (omega arith)) (above n 4 (omega arith)) (above n 5 (omega arith)) (above n 6 (omega arith))

module _ (ws ls : List ℕ) (i : ℕ) where
  pub node_constant : field ws i 0 ≡ 1 → node_at ws ls i ≡ constant (eqb (field ws i 1) 1)
  unfolding node_at node_of pick
  node_constant e = rw e

  pub node_variable : field ws i 0 ≡ 2 → node_at ws ls i ≡ variable (field ws i 1)
  unfolding node_at node_of pick
  node_variable e = rw e

  pub node_negation : field ws i 0 ≡ 3 → node_at ws ls i ≡ negation (field ws i 1)
  unfolding node_at node_of pick
  node_negation e = rw e

  pub node_operator : field ws i 0 ≡ 4 → node_at ws ls i ≡ operator (field ws i 1) (field ws i 2) (field ws i 3)
  unfolding node_at node_of pick
  node_operator e = rw e

  pub node_exists : field ws i 0 ≡ 5 → node_at ws ls i ≡ block exists (range ls (field ws i 1) (field ws i 2)) (field ws i 3)
  unfolding node_at node_of pick
  node_exists e = rw e

  pub node_for_all : field ws i 0 ≡ 6 → node_at ws ls i ≡ block for_all (range ls (field ws i 1) (field ws i 2)) (field ws i 3)
  unfolding node_at node_of pick
  node_for_all e = rw e

  -- a word that is no kind, which no accepted table has
  pub node_none : eqb (field ws i 0) 1 ≡ false → eqb (field ws i 0) 2 ≡ false → eqb (field ws i 0) 3 ≡ false → eqb (field ws i 0) 4 ≡ false
      → eqb (field ws i 0) 5 ≡ false → eqb (field ws i 0) 6 ≡ false → node_at ws ls i ≡ constant false
  unfolding node_at node_of pick
  node_none e1 e2 e3 e4 e5 e6 = rw (e1, e2, e3, e4, e5, e6)

  -- a node is a block where its kind is a block's
  pub is_block_lem : is_block (node_at ws ls i) ≡ is_block_kind (field ws i 0)
  unfolding is_block is_block_kind
  is_block_lem = go (kind_of_lem (field ws i 0))
    where
      go : Kind (field ws i 0) → is_block (node_at ws ls i) ≡ is_block_kind (field ws i 0)
      go (kind_constant e) = rw (node_constant e, e)
      go (kind_variable e) = rw (node_variable e, e)
      go (kind_negation e) = rw (node_negation e, e)
      go (kind_operator e) = rw (node_operator e, e)
      go (kind_exists e) = rw (node_exists e, e)
      go (kind_for_all e) = rw (node_for_all e, e)
      go (kind_none e1 e2 e3 e4 e5 e6) = rw (node_none e1 e2 e3 e4 e5 e6, e5, e6)

  pub block_kind : is_block (node_at ws ls i) ≡ true → is_block_kind (field ws i 0) ≡ true
  block_kind b = sym is_block_lem ∙ b

  pub node_block : is_block (node_at ws ls i) ≡ true
      → node_at ws ls i ≡ block (quantifier_of (field ws i 0)) (range ls (field ws i 1) (field ws i 2)) (field ws i 3)
  unfolding is_block quantifier_of pick
  node_block b = go (kind_of_lem (field ws i 0))
    where
      go : Kind (field ws i 0) → node_at ws ls i ≡ block (quantifier_of (field ws i 0)) (range ls (field ws i 1) (field ws i 2)) (field ws i 3)
      go (kind_constant e) = clash b (rw (node_constant e))
      go (kind_variable e) = clash b (rw (node_variable e))
      go (kind_negation e) = clash b (rw (node_negation e))
      go (kind_operator e) = clash b (rw (node_operator e))
      go (kind_exists e) = node_exists e ∙ rw e
      go (kind_for_all e) = node_for_all e ∙ rw e
      go (kind_none e1 e2 e3 e4 e5 e6) = clash b (rw (node_none e1 e2 e3 e4 e5 e6))

-- Past the last of whole nodes every word reads as 0, and every node as constant 0.
module _ (ws ls : List ℕ) (whole : length ws ≡ width * node_count ws) (i : ℕ) (past : node_count ws ≤ i) where
  pub kind_past : field ws i 0 ≡ 0
  unfolding field
  kind_past = get_or-eq_default ws 0 (omega arith)

  pub node_past : node_at ws ls i ≡ constant false
  unfolding node_at node_of pick
  node_past = rw kind_past
