-- The blocks of an accepted table: their words, and what the working arrays hold of them.
-- Assumes nothing.
use mathlib.Core.Path.{◌≡◌, refl, ◌∙◌, ap}
use mathlib.Core.Bool.{true, false}
use mathlib.Core.List.{List}
use Prim.Native.Nat.{ℕ, zero, suc, ◌+◌, ◌-◌, ◌*◌, ◌≤◌, ◌<◌}
use native.Mathlib.Omega.{arith}
use lib.Dec.{eqb}
use lib.ListN.{length, get_or}
use borrow.Author.Tests.{ne_eqb}
use Rattle.lists.specs.Choice.{pick, and_left}
use Rattle.lists.specs.Parts.{sum, up_to}
use Rattle.lists.proofs.Parts.{get_or-numbers, sum_grows, up_to_cong}
use Rattle.formula.specs.Node.{Table, is_block}
use Rattle.formula.specs.Words.{width, node_count, field, table_of}
use Rattle.formula.specs.Tree.{count, bound_below}
use Rattle.formula.proofs.Nodes.{block_kind, node_block}
use Rattle.refusals.specs.Verdict.{accepted}
use Rattle.acceptance.specs.Verdict.{verdict}
use Rattle.acceptance.specs.Accepted.{Accepted}
use Rattle.acceptance.proofs.Accepted.{count_at_lem, count_block, accepted_holds}
use Rattle.prenex_form.specs.Scope.{inner}
use Rattle.prenex_form.specs.Names.{highest_number, first_name, new_names, bound_count, copies}
use Rattle.prenex_form.specs.Matrix.{kept, body_of, equation}
use Rattle.prenex_form.proofs.Paths.{kept_positive}
use Rattle.prenex_form.proofs.NameLaws.{copies_shift}
use Rattle.arrays.specs.Held.{Starts, first_new, first_copy}
use Rattle.matrix_writer.specs.Entries.{entry_nodes, entries_nodes}
use Rattle.arrays.specs.Chains.{InnerBlock}

pub size_is : (ws ls : List ℕ) → (table_of ws ls).size ≡ node_count ws
unfolding table_of
size_is ws ls = refl

-- an accepted table has nodes, all of them whole
pub table_whole : (ws ls : List ℕ) → verdict ws ls ≡ accepted → (0 < node_count ws) × (length ws ≡ width * node_count ws)
unfolding table_of
table_whole ws ls h = let ok = accepted_holds ws ls h in (ok.proper.tree.nonempty, ok.whole)

pub kept_positive_of : (ws ls : List ℕ) → verdict ws ls ≡ accepted → 0 < kept (table_of ws ls)
kept_positive_of ws ls h = kept_positive (table_of ws ls) (accepted_holds ws ls h).proper.tree

-- one entry's nodes, at their place
entry_is : (t : Table) (i s k : ℕ) → entry_nodes (get_or (new_names t i) k 0) (get_or (copies t i) k 0) (s + (4 * k - 1)) k ≡ equation t i s k
unfolding entry_nodes equation pick
entry_is t i s zero = let e : s + (4 * 0 - 1) ≡ s = omega arith in rw e
entry_is t i s (suc k) =
    let n : eqb (suc k) 0 ≡ false = ne_eqb (suc k) 0 (λ e. omega arith) in
    let a : s + (4 * suc k - 1) ≡ s + 4 * suc k - 1 = omega arith in
    let b : s + 4 * suc k - 1 + 1 ≡ s + 4 * suc k = omega arith in
    let d : s + 4 * suc k - 1 - 1 ≡ s + 4 * suc k - 2 = omega arith in
    let e : s + 4 * suc k - 1 + 2 ≡ s + 4 * suc k + 1 = omega arith in
    rw (n, a, b, d, e)

module _ (ws ls : List ℕ) (ok : Accepted ws ls) (i : ℕ) (b : InnerBlock (table_of ws ls) i) where
  is_block_lem : is_block ((table_of ws ls).node i) ≡ true
  unfolding inner
  is_block_lem = and_left _ _ b.is_inner

  pub body_is : body_of ((table_of ws ls).node i) ≡ field ws i 3
  unfolding table_of body_of
  body_is = ap body_of (node_block ws ls i is_block_lem)

  pub count_is : count (table_of ws ls) i ≡ field ws i 2
  unfolding table_of
  count_is = count_at_lem ws ls i (ok.fits i b.below) ∙ count_block ws i (block_kind ws ls i is_block_lem)

  pub count_some : 0 < count (table_of ws ls) i
  count_some = ok.filled refl i b.below is_block_lem

  -- the block's entries are among all
  pub entries_within : bound_below (table_of ws ls) i + count (table_of ws ls) i ≤ bound_count (table_of ws ls)
  unfolding bound_count bound_below sum
  entries_within = sum_grows (count (table_of ws ls)) (suc i) (table_of ws ls).size b.below

  module _ {starts : List ℕ} (start : Starts (table_of ws ls) starts) where
    pub start_at : get_or starts i 0 ≡ bound_below (table_of ws ls) i
    start_at = start.start_is i b.below is_block_lem

    name_at : (k : ℕ) → k < count (table_of ws ls) i → first_new (table_of ws ls) + get_or starts i 0 + k ≡ get_or (new_names (table_of ws ls) i) k 0
    unfolding new_names first_name
    name_at k h =
        let t = table_of ws ls in omega (arith, start_at, get_or-numbers (highest_number t + 1 + bound_below t i) (count t i) k 0 h)

    copy_at : (k : ℕ) → k < count (table_of ws ls) i → first_copy (table_of ws ls) + get_or starts i 0 + k ≡ get_or (copies (table_of ws ls) i) k 0
    copy_at k h = let t = table_of ws ls in omega (arith, name_at k h, copies_shift t i k 0 b.below h)

    -- the equations written are those of the form
    pub entries_are : (s : ℕ)
        → entries_nodes (first_new (table_of ws ls) + get_or starts i 0) (first_copy (table_of ws ls) + get_or starts i 0) s (count (table_of ws ls) i)
        ≡ up_to (equation (table_of ws ls) i s) (count (table_of ws ls) i)
    unfolding entries_nodes
    entries_are s = up_to_cong _ _ _ (λ k h. rw (name_at k h, copy_at k h) (entry_is (table_of ws ls) i s k))
