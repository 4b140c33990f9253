-- The theorem: of every stored table that is accepted, `without_empty_blocks` gives the words of the table without its empty blocks, with
-- all that specs/Promise.antt says of them.
-- Assumes nothing.
use mathlib.Core.Path.{◌≡◌, refl, sym, ◌∙◌, ap, subst}
use mathlib.Core.Bool.{Bool, true, false, not, ◌&&◌}
use mathlib.Core.List.{List}
use Prim.Native.Nat.{ℕ, zero, suc, ◌+◌, ◌*◌, ◌/◌, ◌%◌, ◌≤◌, ◌<◌}
use native.Mathlib.Omega.{arith}
use lib.Dec.{eqb}
use lib.ListN.{length, get_or}
use lib.Seq.{ext_get_or}
use borrow.Author.Tests.{eqb-false, not-true}
use Rattle.lists.specs.Choice.{pick, pick_yes, Is, is_true, is_false, look}
use Rattle.lists.specs.Members.{all, distinct}
use Rattle.lists.proofs.Parts.{sum_mono, sum_add, pick_le}
use Rattle.lists.proofs.Sums.{sum_ones, ones_le}
use Rattle.formula.specs.Node.{is_block, bound}
use Rattle.formula.specs.Words.{width, node_count, field, is_block_kind, is_empty_block, words_at, node_at, table_of}
use Rattle.formula.specs.Tree.{Tree, NoEmptyBlocks, count, bound_below}
use Rattle.formula.proofs.Nodes.{block_kind}
use Rattle.refusals.specs.Verdict.{accepted}
use Rattle.acceptance.specs.Limits.{table_limits, stored_limits}
use Rattle.acceptance.specs.Verdict.{is_number, well_formed, stored_verdict}
use Rattle.acceptance.specs.Accepted.{AcceptedWithin, LowerOperands, Accepted}
use Rattle.acceptance.proofs.Accepted.{Fits, count_at_lem, count_block, within_lower, within_holds, accepted_holds, holds_accepted}
use Rattle.empty_blocks.specs.Removal.{stays, left_below, empty_below, new_index, renumbered, without_empty_blocks}
use Rattle.empty_blocks.specs.Promise.{RemovalOf}
use Rattle.empty_blocks.proofs.Named.{named_stays}
use Rattle.empty_blocks.proofs.Words.{renumbered_same, renumbered_itself}
use Rattle.empty_blocks.proofs.Left.{sum_left, length_left, left_count, each_left, left_words}
use Rattle.empty_blocks.proofs.Nodes.{moved_bound, moved_block, formed_renumbered, range_renumbered, left_node, gone_node}
use Rattle.empty_blocks.proofs.Tree.{new_tree}
use Rattle.empty_blocks.proofs.Truth.{same_truth, same_free}

-- A block that stays is not empty, and where no block is empty, every node stays.

left_filled : (ws ls : List ℕ) (i : ℕ) → Fits ws ls i → stays ws i ≡ true → is_block (node_at ws ls i) ≡ true → 0 < count (table_of ws ls) i
unfolding stays is_empty_block
left_filled ws ls i fits s b =
    let k : is_block_kind (field ws i 0) ≡ true = block_kind ws ls i b in
    let off : (is_block_kind (field ws i 0) && eqb (field ws i 2) 0) ≡ false = not-true _ s in
    let n : field ws i 2 ≡ 0 → ⊥ = eqb-false _ _ (rw k at off) in
    omega (arith, count_at_lem ws ls i fits, count_block ws i k)

filled_stays : (ws ls : List ℕ) (i : ℕ) → (is_block (node_at ws ls i) ≡ true → 0 < count (table_of ws ls) i) → stays ws i ≡ true
unfolding is_block count bound table_of
filled_stays ws ls i filled = go (look (stays ws i))
  where
    go : Is (stays ws i) → stays ws i ≡ true
    go (is_true s) = s
    go (is_false s) =
        let f : 0 < count (table_of ws ls) i = filled (rw (gone_node ws ls i s)) in absurd (omega (arith, rw (gone_node ws ls i s) at f))

-- The table without empty blocks is accepted.
module _ (ws ls : List ℕ) (a : AcceptedWithin stored_limits ws ls) where
  abbrev ns : List ℕ
  ns = without_empty_blocks ws

  abbrev tree : Tree (table_of ws ls)
  tree = a.proper.tree

  abbrev ordered : LowerOperands ws
  ordered = within_lower stored_limits ws ls a

  -- a node that stays binds what it bound
  left_bound : (i : ℕ) → i < node_count ws → stays ws i ≡ true → bound (node_at ns ls (left_below ws i)) ≡ bound (node_at ws ls i)
  left_bound i h s = ap bound (left_node ws ls i h s) ∙ moved_bound (new_index ws) (node_at ws ls i)

  left-is_block : (i : ℕ) → i < node_count ws → stays ws i ≡ true → is_block (node_at ns ls (left_below ws i)) ≡ is_block (node_at ws ls i)
  left-is_block i h s = ap is_block (left_node ws ls i h s) ∙ moved_block (new_index ws) (node_at ws ls i)

  new_whole : length ns ≡ width * node_count ns
  unfolding without_empty_blocks
  new_whole = omega (arith, length_left ws (node_count ws))

  new_few : node_count ns ≤ node_count ws
  unfolding left_below
  new_few = omega (arith, left_count ws, ones_le (stays ws) (node_count ws))

  new_counts : bound_below (table_of ns ls) (node_count ns) ≤ bound_below (table_of ws ls) (node_count ws)
  unfolding bound_below count table_of
  new_counts =
      rw left_count (rw (sum_left ws (count (table_of ns ls)) (count (table_of ws ls)) (node_count ws) (λ i h s. ap length (left_bound i h s)))
      (sum_mono _ _ (node_count ws) (λ i _. pick_le (stays ws i) (count (table_of ws ls) i))))

  new_fits : (k : ℕ) → k < node_count ns → Fits ns ls k
  unfolding renumbered
  new_fits =
      each_left ws (Fits ns ls) (λ i h s.
      subst (λ w. is_block_kind w.kind ≡ true → w.a + w.b ≤ length ls) (sym (left_words ws i h s))
      (λ b. omega (arith, range_renumbered (new_index ws) (words_at ws i) b, a.fits i h b)))

  new_filled : NoEmptyBlocks (table_of ns ls)
  unfolding count table_of
  new_filled =
      each_left ws (λ k. is_block (node_at ns ls k) ≡ true → 0 < count (table_of ns ls) k)
      (λ i h s b. rw (left_bound i h s) (left_filled ws ls i (a.fits i h) s (sym (left-is_block i h s) ∙ b)))

  new_accepted : Accepted ns ls
  unfolding table_of
  new_accepted =
      record {
        whole = new_whole;
        proper = record {
          tree = new_tree ws ls tree ordered;
          apart = each_left ws (λ k. distinct (bound (node_at ns ls k)) ≡ true) (λ i h s. rw (left_bound i h s) (a.proper.apart i h));
        };
        nodes_limit = omega (arith, new_few, a.nodes_limit);
        list_limit = a.list_limit;
        counts_limit = omega (arith, new_counts, a.counts_limit);
        formed = each_left ws (λ k. well_formed table_limits (words_at ns k) ≡ true)
            (λ i h s. rw (left_words ws i h s) (formed_renumbered (new_index ws) (words_at ws i) ∙ a.formed i h));
        fits = new_fits;
        filled = λ _. new_filled;
        numbered = each_left ws (λ k. all is_number (bound (node_at ns ls k)) ≡ true) (λ i h s. rw (left_bound i h s) (a.numbered i h));
      }

-- Whole nodes with the same words are the same list.

field_same : (xs ys : List ℕ) (i f : ℕ) → f < width → words_at xs i ≡ words_at ys i → field xs i f ≡ field ys i f
field_same xs ys i zero h e = ap (λ w. w.kind) e
field_same xs ys i (suc zero) h e = ap (λ w. w.a) e
field_same xs ys i (suc (suc zero)) h e = ap (λ w. w.b) e
field_same xs ys i (suc (suc (suc zero))) h e = ap (λ w. w.c) e
field_same xs ys i (suc (suc (suc (suc f)))) h e = absurd (omega arith)

words_same : (xs ys : List ℕ) (n : ℕ) → length xs ≡ width * n → length ys ≡ width * n
    → ((i : ℕ) → i < n → words_at xs i ≡ words_at ys i) → xs ≡ ys
unfolding field
words_same xs ys n p q same =
    ext_get_or 0 xs ys (omega arith) (λ j h.
    let e : width * (j / width) + j % width ≡ j = omega arith in
    ap (λ k. get_or xs k 0) (sym e)
    ∙ field_same xs ys (j / width) (j % width) (omega arith) (same (j / width) (omega arith))
    ∙ ap (λ k. get_or ys k 0) e)

-- Where every node stays, each is where it was.
module _ (ws : List ℕ) (ordered : LowerOperands ws) (All-stay : (i : ℕ) → i < node_count ws → stays ws i ≡ true) where
  left_all : (i : ℕ) → i ≤ node_count ws → left_below ws i ≡ i
  unfolding left_below
  left_all i h = sum_ones (λ j. pick (stays ws j) 1 0) i (λ j l. pick_yes _ _ _ (All-stay j (omega arith)))

  index_same : (i : ℕ) → i < node_count ws → new_index ws i ≡ i
  index_same i h = named_stays ws i (All-stay i h) ∙ left_all i (omega arith)

  words_unchanged : (i : ℕ) → i < node_count ws → renumbered (new_index ws) (words_at ws i) ≡ words_at ws i
  words_unchanged i h =
      renumbered_same i (words_at ws i) (ordered i h) (new_index ws) (λ x. x) (λ x l. index_same x (omega arith)) ∙ renumbered_itself (words_at ws i)

  unchanged : length ws ≡ width * node_count ws → without_empty_blocks ws ≡ ws
  unfolding without_empty_blocks
  unchanged whole =
      let ns : List ℕ = without_empty_blocks ws in
      let long : length ns ≡ width * node_count ws = omega (arith, length_left ws (node_count ws), left_all (node_count ws) (omega arith)) in
      words_same ns ws (node_count ws) long whole
      (λ i h. ap (words_at ns) (sym (left_all i (omega arith))) ∙ left_words ws i h (All-stay i h) ∙ words_unchanged i h)

-- "its size is the nodes left"
one_or_other : (b : Bool) → pick (not b) 1 0 + pick b 1 0 ≡ 1
unfolding pick
one_or_other true = refl
one_or_other false = refl

nodes_apart : (ws : List ℕ) (n : ℕ) → left_below ws n + empty_below ws n ≡ n
unfolding left_below empty_below stays
nodes_apart ws n =
    sym (sum_add (λ i. pick (not (is_empty_block (words_at ws i))) 1 0) (λ i. pick (is_empty_block (words_at ws i)) 1 0) n)
    ∙ sum_ones _ n (λ i _. one_or_other (is_empty_block (words_at ws i)))

pub removal : (ws ls : List ℕ) → stored_verdict ws ls ≡ accepted → RemovalOf ws ls (without_empty_blocks ws)
unfolding table_of
removal ws ls e =
    let a = within_holds stored_limits ws ls e in
    let lower = ordered ws ls a in
    record {
      accepts = holds_accepted (without_empty_blocks ws) ls (new_accepted ws ls a);
      same_truth = same_truth ws ls (tree ws ls a) lower;
      same_free = same_free ws ls (tree ws ls a) lower;
      nodes_left = omega (arith, left_count ws, nodes_apart ws (node_count ws));
      word_for_word = λ v.
          unchanged ws lower (λ i h. filled_stays ws ls i ((accepted_holds ws ls v).filled refl i h)) a.whole;
    }
