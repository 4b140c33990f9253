-- A table's words with one node more, over a list that keeps its entries.
-- Assumes nothing.
use mathlib.Core.Path.{◌≡◌, refl, ◌∙◌, ap}
use mathlib.Core.Bool.{true}
use mathlib.Core.List.{List, ◌++◌}
use Prim.Native.Nat.{ℕ, suc, ◌+◌, ◌*◌, ◌≤◌, ◌<◌}
use native.Mathlib.Omega.{arith}
use lib.ListN.{length, get_or, take, drop, length-append, length-drop, get_or-append}
use lib.Seq.{get_or-append-add, drop-append-le, drop-append_seam, take-append-le, take-length}
use Rattle.lists.specs.Choice.{pick}
use Rattle.formula.specs.Words.{width, node_count, field, is_block_kind, range, words_at, node_of, word_list, node_at}
use Rattle.formula.specs.declared.NodeWords.{NodeWords}
use Rattle.formula.proofs.Nodes.{word_list-length, Kind, kind_of_lem, kind_constant, kind_variable, kind_negation, kind_operator, kind_exists, kind_for_all, kind_none}
use Rattle.acceptance.proofs.Accepted.{Fits}

-- The words of ws and of one node more.
abbrev pub with_node : List ℕ → NodeWords → List ℕ
with_node ws w = ws ++ word_list w

-- Each range within ls is the same in ls', which is no shorter.
pub record Extends (ls ls' : List ℕ) : Type 0 where
  pub longer : length ls ≤ length ls'
  pub ranges : (a b : ℕ) → a + b ≤ length ls → range ls' a b ≡ range ls a b

pub extends_same : (ls : List ℕ) → Extends ls ls
extends_same ls = record { longer = omega arith; ranges = λ a b h. refl }

pub extends_append : (ls xs : List ℕ) → Extends ls (ls ++ xs)
unfolding range
extends_append ls xs =
    record {
      longer = omega (arith, length-append ls xs);
      ranges = λ a b h.
          ap (take b) (drop-append-le a ls xs (omega arith))
          ∙ take-append-le b (drop a ls) xs (omega (arith, length-drop a ls));
    }

-- the range of what is appended
pub range_appended : (ls xs : List ℕ) → range (ls ++ xs) (length ls) (length xs) ≡ xs
unfolding range
range_appended ls xs = rw drop-append_seam (take-length xs)

-- only a block's range is read of the list
node_ranges : (ls ls' : List ℕ) (w : NodeWords) → (is_block_kind w.kind ≡ true → range ls' w.a w.b ≡ range ls w.a w.b) → Kind w.kind
    → node_of ls' w ≡ node_of ls w
unfolding node_of is_block_kind pick
node_ranges ls ls' w h (kind_constant e) = rw e
node_ranges ls ls' w h (kind_variable e) = rw e
node_ranges ls ls' w h (kind_negation e) = rw e
node_ranges ls ls' w h (kind_operator e) = rw e
node_ranges ls ls' w h (kind_exists e) = let r : range ls' w.a w.b ≡ range ls w.a w.b = h (rw e) in rw (e, r)
node_ranges ls ls' w h (kind_for_all e) = let r : range ls' w.a w.b ≡ range ls w.a w.b = h (rw e) in rw (e, r)
node_ranges ls ls' w h (kind_none e1 e2 e3 e4 e5 e6) = rw (e1, e2, e3, e4, e5, e6)

module _ (ws : List ℕ) (whole : length ws ≡ width * node_count ws) (w : NodeWords) where
  pub count_with : node_count (with_node ws w) ≡ suc (node_count ws)
  count_with = omega (arith, length-append ws (word_list w), word_list-length w)

  pub whole_with : length (with_node ws w) ≡ width * node_count (with_node ws w)
  whole_with = omega (arith, length-append ws (word_list w), word_list-length w)

  field_kept : (i f : ℕ) → i < node_count ws → f < width → field (with_node ws w) i f ≡ field ws i f
  unfolding field
  field_kept i f h l = get_or-append ws (word_list w) 0 (width * i + f) (omega arith)

  field_new : (f : ℕ) → field (with_node ws w) (node_count ws) f ≡ get_or (word_list w) f 0
  unfolding field
  field_new f =
      let e : width * node_count ws + f ≡ length ws + f = omega arith in
      ap (λ (k : ℕ). get_or (with_node ws w) k 0) e ∙ get_or-append-add ws (word_list w) f 0

  pub words_kept : (i : ℕ) → i < node_count ws → words_at (with_node ws w) i ≡ words_at ws i
  words_kept i h =
      rw (field_kept i 0 h (omega arith), field_kept i 1 h (omega arith), field_kept i 2 h (omega arith), field_kept i 3 h (omega arith))

  pub words_new : words_at (with_node ws w) (node_count ws) ≡ w
  unfolding word_list
  words_new = rw (field_new 0, field_new 1, field_new 2, field_new 3)

  pub node_kept : (ls ls' : List ℕ) → Extends ls ls' → (i : ℕ) → i < node_count ws → Fits ws ls i
      → node_at (with_node ws w) ls' i ≡ node_at ws ls i
  unfolding node_at
  node_kept ls ls' e i h fits =
      ap (node_of ls') (words_kept i h)
      ∙ node_ranges ls ls' (words_at ws i) (λ k. e.ranges (field ws i 1) (field ws i 2) (fits k)) (kind_of_lem (field ws i 0))

  pub node_new : (ls : List ℕ) → node_at (with_node ws w) ls (node_count ws) ≡ node_of ls w
  unfolding node_at
  node_new ls = ap (node_of ls) words_new
