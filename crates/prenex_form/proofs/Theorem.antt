-- The theorems: the written form of every accepted table is a prenex form of it, and what else specs/ says of it.
-- Assumes nothing.
use mathlib.Core.Path.{◌≡◌, refl, sym, ◌∙◌, ap}
use mathlib.Core.Bool.{Bool, true, false, ◌||◌}
use mathlib.Core.List.{List, []}
use Prim.Native.Nat.{ℕ, ◌*◌, ◌≤◌, ◌<◌}
use native.Mathlib.Omega.{arith}
use lib.ListN.{length}
use borrow.Author.Tests.{le-ltb}
use Rattle.lists.specs.Choice.{clash, absent}
use Rattle.lists.specs.Search.{lowest, some_below}
use Rattle.lists.specs.Members.{mem, all, distinct}
use Rattle.lists.proofs.Search.{lowest_none}
use Rattle.lists.proofs.Parts.{sum_zero}
use Rattle.lists.proofs.Passing.{one_list}
use Rattle.formula.specs.Node.{Table, is_block, bound}
use Rattle.formula.specs.Words.{width, node_count, words_at, node_at, table_of}
use Rattle.formula.specs.Valuation.{Valuation}
use Rattle.formula.specs.Truth.{truth, free}
use Rattle.formula.specs.Form.{form_truth}
use Rattle.formula.specs.FreeVariables.{stands_at, some_node, free_variables, form_free_variables}
use Rattle.formula.specs.Tree.{Tree, NoEmptyBlocks, count, bound_below}
use Rattle.formula.proofs.Nodes.{is_block_lem}
use Rattle.formula.proofs.Coincidence.{coincidence}
use Rattle.formula.proofs.FreeVariables.{free_listed, form_free-listed}
use Rattle.refusals.specs.Verdict.{accepted}
use Rattle.acceptance.specs.Limits.{TableLimits, table_limits, matrix_limits}
use Rattle.acceptance.specs.Verdict.{verdict}
use Rattle.acceptance.specs.Accepted.{AcceptedWithin, Accepted}
use Rattle.acceptance.proofs.Accepted.{accepted_holds, holds_within}
use Rattle.prenex_form.specs.Matrix.{prenex_nodes, written_nodes}
use Rattle.prenex_form.specs.Prefix.{written_prefix, written_variables}
use Rattle.prenex_form.specs.Sizes.{sizes, SizeRule}
use Rattle.prenex_form.specs.Promise.{highest_name, PrenexOf, SameList, MatrixPasses, SizesOf, holds, ZeroUnused}
use Rattle.prenex_form.proofs.Truth.{same_truth}
use Rattle.prenex_form.proofs.FreeNames.{free_stands, same_free}
use Rattle.prenex_form.proofs.Limits.{number_from, zero_within, node_within, within_formed, formed_mono, formed_plain, highest_limit, bound_limit, size_limit}
use Rattle.prenex_form.proofs.NameLaws.{binds_nothing}
use Rattle.prenex_form.proofs.PrefixNames.{prefix_length, prefix_distinct, prefix_entries, length-prefix_blocks, block_count-le, entries_le, blocks_le, prefix_new}
use Rattle.prenex_form.proofs.PrefixShape.{prefix_count_lem, prefix_whole, prefix_kinds_from, prefix_kinds_to, prefix_follow, prefix_fill, prefix_filled}
use Rattle.prenex_form.proofs.WrittenFormed.{prenex_within, prefix_within}
use Rattle.prenex_form.proofs.WrittenOrder.{prenex_plain}
use Rattle.prenex_form.proofs.WrittenSizes.{length-prenex_nodes}
use Rattle.prenex_form.proofs.WrittenWords.{written_whole, written_count, written_words, written_tree, written_bound, written_few}

-- of a table that is accepted
of_accepted : (ws ls : List ℕ) → Accepted ws ls
    → PrenexOf (table_of ws ls) (written_nodes (table_of ws ls)) (written_prefix (table_of ws ls)) (written_variables (table_of ws ls))
unfolding table_of
of_accepted ws ls a =
    let t = table_of ws ls in
    let tree = a.proper.tree in
    let filled = a.filled refl in
    let same : (v : Valuation) → form_truth (written_nodes t) (written_prefix t) (written_variables t) v ≡ truth t v =
    same_truth t a.proper filled in
    record {
      same_truth = same;
      table_by_free = coincidence t;
      form_by_free = λ v u agree. same v ∙ coincidence t v u agree ∙ sym (same u);
      same_free = same_free t a.proper filled;
      bound_once = prefix_distinct t tree;
      names_new = prefix_new t tree;
      whole_nodes = written_whole t;
      matrix_formed = λ i h.
          let l : i < length (prenex_nodes t) = rw (written_count t) at h in
          rw (written_words t i h)
          (within_formed (highest_name t) _ (prenex_plain t tree i l) (prenex_within t tree 65535 (node_within table_limits ws ls a) i l));
      matrix_tree = written_tree t tree filled;
      prefix_names_lem = prefix_within t tree;
      whole_blocks = prefix_whole t;
      block_kinds_from = prefix_kinds_from t;
      block_kinds_to = prefix_kinds_to t;
      ranges_follow = prefix_follow t;
      ranges_fill = prefix_fill t;
      blocks_filled = prefix_filled t tree filled;
      nodes_bound = written_bound t tree filled;
      variables_bound = rw (prefix_entries t tree) (entries_le t);
      blocks_bound = rw (prefix_count_lem t, length-prefix_blocks t tree) (blocks_le t);
      nodes_limit = written_few t tree filled (size_limit ws ls a) (bound_limit ws ls a);
      names_limit = omega (arith, highest_limit ws ls a, bound_limit ws ls a, size_limit ws ls a, block_count-le t);
    }

-- For every accepted table and every setting, table and written form have the same truth value, and what else is owed of the form.
pub prenex : (ws ls : List ℕ) → verdict ws ls ≡ accepted
    → PrenexOf (table_of ws ls) (written_nodes (table_of ws ls)) (written_prefix (table_of ws ls)) (written_variables (table_of ws ls))
prenex ws ls h = of_accepted ws ls (accepted_holds ws ls h)

-- A prenex form of a table has the table's list of free variables.
pub same_list : SameList
same_list t tree ns ps xs p =
    let of_form = form_free-listed ns ps xs p.matrix_tree in
    one_list (free t) (form_free_variables ns ps xs) (free_variables t)
    (record { members = λ x. of_form.members x ∙ p.same_free x; ascending = of_form.ascending })
    (free_listed t tree)

-- Measured sizes are the sizes written.
pub sizes_written : (t : Table) → SizesOf (sizes t) (written_nodes t) (written_prefix t) (written_variables t)
unfolding sizes
sizes_written t =
    record {
      nodes_measured = written_whole t ∙ ap (λ n. width * n) (written_count t);
      blocks_measured = prefix_length t;
      entries_measured = refl;
    }

-- "So K nodes are joined by 4 × count + 5 for each inner block", and the prefix and the list likewise.
pub size_rule : (t : Table) → Tree t → NoEmptyBlocks t → SizeRule t
size_rule t tree filled =
    record {
      nodes_rule = length-prenex_nodes t tree filled;
      blocks_rule = length-prefix_blocks t tree;
      entries_rule = prefix_entries t tree;
    }

module _ (t : Table) (ns ps xs : List ℕ) (p : PrenexOf t ns ps xs) where
  -- no node of a form's matrix is a block, so none binds anything
  matrix_plain : (i : ℕ) → i < node_count ns → is_block (node_at ns [] i) ≡ false
  matrix_plain i h = is_block_lem ns [] i ∙ formed_plain (highest_name t) (words_at ns i) (p.matrix_formed i h)

  matrix_binds : (i : ℕ) → i < node_count ns → bound (node_at ns [] i) ≡ []
  matrix_binds i h = binds_nothing _ (matrix_plain i h)

  pub matrix_accepted : AcceptedWithin (matrix_limits 77823) ns []
  unfolding table_of bound_below count distinct all
  matrix_accepted =
      record {
        whole = p.whole_nodes;
        proper = record { tree = p.matrix_tree; apart = λ i h. rw (matrix_binds i h) };
        nodes_limit = p.nodes_limit;
        list_limit = omega arith;
        counts_limit = omega (arith, sum_zero (count (table_of ns [])) (node_count ns) (λ i h. ap length (matrix_binds i h)));
        formed = λ i h. formed_mono (highest_name t) 77823 (words_at ns i) p.names_limit (p.matrix_formed i h);
        fits = λ i h b. clash b (formed_plain (highest_name t) (words_at ns i) (p.matrix_formed i h));
        filled = λ e i h b. clash b (matrix_plain i h);
        numbered = λ i h. rw (matrix_binds i h);
      }

  pub matrix_passes : MatrixPasses ns
  matrix_passes = holds_within (matrix_limits 77823) ns [] matrix_accepted

-- an accepted table, within any limits, does not hold the number 0
zero_not_held : (lim : TableLimits) (ws ls : List ℕ) → AcceptedWithin lim ws ls → holds (table_of ws ls) 0 ≡ false
unfolding holds some_node some_below table_of
zero_not_held lim ws ls a =
    let held : ℕ → Bool = λ i. stands_at 0 (node_at ws ls i) || mem 0 (bound (node_at ws ls i)) in
    let none = lowest_none held (node_count ws) (λ i h. zero_within lim.highest _ (node_within lim ws ls a i h)) in
    le-ltb (lowest held (node_count ws)) (node_count ws) (omega arith)

-- a number that is free in it is at least 1
free_from_one : (ws ls : List ℕ) → Accepted ws ls → (x : ℕ) → free (table_of ws ls) x ≡ true → 1 ≤ x
unfolding table_of
free_from_one ws ls a x f =
    let s = free_stands (table_of ws ls) a.proper.tree x f in
    number_from 65535 x (rw s.variable_is at (node_within table_limits ws ls a s.node s.within))

pub zero_unused : (ws ls ns ps xs : List ℕ) → verdict ws ls ≡ accepted → PrenexOf (table_of ws ls) ns ps xs → ZeroUnused (table_of ws ls) ns ps xs
zero_unused ws ls ns ps xs h p =
    let a = accepted_holds ws ls h in
    record {
      not_in_table = zero_not_held table_limits ws ls a;
      not_in_matrix = zero_not_held (matrix_limits 77823) ns [] (matrix_accepted (table_of ws ls) ns ps xs p);
      not_in_prefix = absent _ (λ m. omega (arith, p.names_new 0 m));
      table_from_one = λ v u same. p.table_by_free v u (λ x f. same x (free_from_one ws ls a x f));
      form_from_one = λ v u same. p.form_by_free v u (λ x f. same x (free_from_one ws ls a x f));
    }
