-- What holds of the nodes stored so far, and that one node more keeps it.
-- Assumes nothing.
use mathlib.Core.Path.{◌≡◌, sym, ◌∙◌, ap, ap₂, subst}
use mathlib.Core.Bool.{true}
use mathlib.Core.List.{List}
use Prim.Native.Nat.{ℕ, suc, ◌+◌, ◌*◌, ◌≤◌, ◌<◌}
use native.Mathlib.Omega.{arith}
use lib.ListN.{length}
use borrow.Author.Count.{below_more}
use Rattle.lists.specs.Members.{mem, all, distinct, times}
use Rattle.lists.specs.Parts.{sum}
use Rattle.lists.proofs.Parts.{sum_cong}
use Rattle.formula.specs.Node.{Node, operands, is_block, bound}
use Rattle.formula.specs.Words.{width, node_count, is_block_kind, words_at, node_of, node_at, table_of}
use Rattle.formula.specs.declared.NodeWords.{NodeWords}
use Rattle.formula.specs.Tree.{times_named}
use Rattle.formula.proofs.Unfolding.{Lower}
use Rattle.acceptance.specs.Limits.{table_limits}
use Rattle.acceptance.specs.Verdict.{is_number, well_formed}
use Rattle.acceptance.proofs.Accepted.{Fits}
use Rattle.qcir.proofs.StoredWords.{with_node, Extends, count_with, whole_with, words_kept, words_new, node_kept, node_new}
use Rattle.qcir.proofs.StoredValues.{Kept}

-- If the node is a block, it binds a variable: `NoEmptyBlocks` of one node.
abbrev pub FilledNode : Node → Type 0
FilledNode nd = is_block nd ≡ true → 0 < length (bound nd)

-- The words are whole nodes, each names lower ones, and each block binds a variable and no number twice; given R, all words are within
-- their ranges.
pub record Sound (R : Type 0) (ws ls : List ℕ) : Type 0 where
  pub whole : length ws ≡ width * node_count ws
  pub fits : (i : ℕ) → i < node_count ws → Fits ws ls i
  pub lower : Lower (node_at ws ls) (node_count ws)
  pub filled : (i : ℕ) → i < node_count ws → FilledNode (node_at ws ls i)
  pub apart : (i : ℕ) → i < node_count ws → distinct (bound (node_at ws ls i)) ≡ true
  pub formed : R → (i : ℕ) → i < node_count ws → well_formed table_limits (words_at ws i) ≡ true
  pub numbered : R → (i : ℕ) → i < node_count ws → all is_number (bound (node_at ws ls i)) ≡ true

-- The same of a node to be stored with the list ls', which takes the place of ls.
pub record Fresh (R : Type 0) (ws ls ls' : List ℕ) (w : NodeWords) : Type 0 where
  pub fits : is_block_kind w.kind ≡ true → w.a + w.b ≤ length ls'
  pub lower : (x : ℕ) → mem x (operands (node_of ls' w)) ≡ true → x < node_count ws
  pub filled : FilledNode (node_of ls' w)
  pub apart : distinct (bound (node_of ls' w)) ≡ true
  pub formed : R → well_formed table_limits w ≡ true
  pub numbered : R → all is_number (bound (node_of ls' w)) ≡ true

-- what holds below n and at n holds below n + 1
each : (P : ℕ → Type 0) (n m : ℕ) → m ≡ suc n → ((i : ℕ) → i < n → P i) → P n → (i : ℕ) → i < m → P i
each P n m e h p i l = below_more P n h p i (omega arith)

module _ (R : Type 0) (ws ls ls' : List ℕ) (w : NodeWords) (sound : Sound R ws ls) (ext : Extends ls ls') (fresh : Fresh R ws ls ls' w) where
  count : node_count (with_node ws w) ≡ suc (node_count ws)
  count = count_with ws sound.whole w

  words : (i : ℕ) → i < node_count ws → words_at (with_node ws w) i ≡ words_at ws i
  words = words_kept ws sound.whole w

  fresh_words : words_at (with_node ws w) (node_count ws) ≡ w
  fresh_words = words_new ws sound.whole w

  old : (i : ℕ) → i < node_count ws → node_at (with_node ws w) ls' i ≡ node_at ws ls i
  old i h = node_kept ws sound.whole w ls ls' ext i h (sound.fits i h)

  pub new : node_at (with_node ws w) ls' (node_count ws) ≡ node_of ls' w
  new = node_new ws sound.whole w ls'

  fits_old : (i : ℕ) → i < node_count ws → Fits (with_node ws w) ls' i
  fits_old i h =
      subst (λ (u : NodeWords). is_block_kind u.kind ≡ true → u.a + u.b ≤ length ls') (sym (words i h))
      (λ k. let f = sound.fits i h k in omega (arith, ext.longer))

  fits_new : Fits (with_node ws w) ls' (node_count ws)
  fits_new = subst (λ (u : NodeWords). is_block_kind u.kind ≡ true → u.a + u.b ≤ length ls') (sym fresh_words) fresh.fits

  -- a sum over the nodes
  pub sum_more : (h : Node → ℕ) → sum (λ i. h (node_at (with_node ws w) ls' i)) (node_count (with_node ws w))
      ≡ sum (λ i. h (node_at ws ls i)) (node_count ws) + h (node_of ls' w)
  unfolding sum
  sum_more h =
      rw count (ap₂ ◌+◌ (sum_cong _ _ (node_count ws) (λ i l. ap h (old i l))) (ap h new))

  pub sound_more : Sound R (with_node ws w) ls'
  sound_more =
      let n = node_count ws in
      let m = node_count (with_node ws w) in
      record {
        whole = whole_with ws sound.whole w;
        fits = each (λ i. Fits (with_node ws w) ls' i) n m count fits_old fits_new;
        lower = λ i x h. each (λ i. mem x (operands (node_at (with_node ws w) ls' i)) ≡ true → x < i) n m count
            (λ i h k. sound.lower i x h (sym (ap (λ nd. mem x (operands nd)) (old i h)) ∙ k))
            (λ k. fresh.lower x (sym (ap (λ nd. mem x (operands nd)) new) ∙ k)) i h;
        filled = each (λ i. FilledNode (node_at (with_node ws w) ls' i)) n m count
            (λ i h. subst FilledNode (sym (old i h)) (sound.filled i h))
            (subst FilledNode (sym new) fresh.filled);
        apart = each (λ i. distinct (bound (node_at (with_node ws w) ls' i)) ≡ true) n m count
            (λ i h. ap (λ nd. distinct (bound nd)) (old i h) ∙ sound.apart i h)
            (ap (λ nd. distinct (bound nd)) new ∙ fresh.apart);
        formed = λ r. each (λ i. well_formed table_limits (words_at (with_node ws w) i) ≡ true) n m count
            (λ i h. ap (well_formed table_limits) (words i h) ∙ sound.formed r i h)
            (ap (well_formed table_limits) fresh_words ∙ fresh.formed r);
        numbered = λ r. each (λ i. all is_number (bound (node_at (with_node ws w) ls' i)) ≡ true) n m count
            (λ i h. ap (λ nd. all is_number (bound nd)) (old i h) ∙ sound.numbered r i h)
            (ap (λ nd. all is_number (bound nd)) new ∙ fresh.numbered r);
      }

  pub kept_with : Kept (table_of ws ls) (table_of (with_node ws w) ls')
  unfolding table_of
  kept_with = record { grown = omega (arith, count); same = old }

  pub named_more : (k : ℕ) → times_named (table_of (with_node ws w) ls') k ≡ times_named (table_of ws ls) k + times k (operands (node_of ls' w))
  unfolding times_named table_of
  named_more k = sum_more (λ nd. times k (operands nd))
