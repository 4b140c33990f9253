-- The theorem: every accepted table has the form that keeps its leading blocks.
-- Assumes nothing.
use mathlib.Core.Path.{◌≡◌, refl, sym, ◌∙◌, ap}
use mathlib.Core.Bool.{true}
use mathlib.Core.List.{List}
use Prim.Native.Nat.{ℕ, ◌+◌, ◌-◌, ◌*◌, ◌≤◌, ◌<◌}
use native.Mathlib.Omega.{arith}
use lib.ListN.{length}
use Rattle.lists.specs.Members.{mem, all, distinct}
use Rattle.lists.specs.Parts.{highest}
use Rattle.lists.proofs.Search.{lowest_le}
use Rattle.lists.proofs.Parts.{highest_le, highest_ge, length_each}
use Rattle.formula.specs.Node.{Table}
use Rattle.formula.specs.Words.{node_count, words_at, node_at, table_of}
use Rattle.formula.specs.Valuation.{Valuation}
use Rattle.formula.specs.Truth.{truth, free}
use Rattle.formula.specs.Form.{Block, form_truth, form_free}
use Rattle.kept_prefix.specs.Blocks.{prefix_names}
use Rattle.kept_prefix.proofs.Blocks.{Filled}
use Rattle.formula.proofs.Prefix.{length-prefix_words}
use Rattle.formula.proofs.Coincidence.{coincidence}
use Rattle.refusals.specs.Verdict.{accepted}
use Rattle.acceptance.specs.Verdict.{is_number_to, verdict}
use Rattle.acceptance.proofs.Accepted.{accepted_holds}
use Rattle.prenex_form.specs.Scope.{depth}
use Rattle.prenex_form.specs.Names.{highest_at, highest_number, bound_count}
use Rattle.prenex_form.specs.Matrix.{written_nodes}
use Rattle.prenex_form.specs.Prefix.{block_count, written_prefix, written_variables}
use Rattle.prenex_form.specs.Sizes.{sizes}
use Rattle.prenex_form.specs.Promise.{highest_name, PrenexOf, SizesOf}
use Rattle.prenex_form.proofs.Theorem.{prenex, sizes_written}
use Rattle.prenex_form.proofs.Limits.{formed_mono}
use Rattle.kept_prefix.proofs.PrefixShape.{words_blocks, words_whole, words_kinds_from, words_kinds_to, words_ranges_follow, words_ranges_fill, words_filled}
use Rattle.kept_prefix.specs.Leading.{block_of, from_root, outermost, stops, leading_count, leading_blocks, words_below, below}
use Rattle.kept_prefix.specs.Kept.{front_blocks, kept_blocks, kept_nodes, kept_prefix, kept_variables, kept_sizes}
use Rattle.kept_prefix.specs.Form.{FormOf}
use Rattle.kept_prefix.specs.Promise.{Below, KeptPrenex}
use Rattle.kept_prefix.proofs.Leading.{leading_most}
use Rattle.kept_prefix.proofs.Below.{node_below, blocks_below}
use Rattle.kept_prefix.proofs.Kept.{front_few}
use Rattle.kept_prefix.proofs.Free.{free_below}
use Rattle.kept_prefix.proofs.Over.{over_truth, over_free, front_low, over_distinct, over_numbers, over_filled, over_entries, front_entries, over_blocks}

-- A lift is such a form: it says all that is asked, and that its names are new.
pub lift_form : (t : Table) (ns ps xs : List ℕ) → PrenexOf t ns ps xs → FormOf t ns ps xs
lift_form t ns ps xs p =
    record {
      same_truth = p.same_truth;
      table_by_free = p.table_by_free;
      form_by_free = p.form_by_free;
      same_free = p.same_free;
      bound_once = p.bound_once;
      whole_nodes = p.whole_nodes;
      matrix_formed = p.matrix_formed;
      matrix_tree = p.matrix_tree;
      prefix_names_lem = p.prefix_names_lem;
      whole_blocks = p.whole_blocks;
      block_kinds_from = p.block_kinds_from;
      block_kinds_to = p.block_kinds_to;
      ranges_follow = p.ranges_follow;
      ranges_fill = p.ranges_fill;
      blocks_filled = p.blocks_filled;
      nodes_bound = p.nodes_bound;
      variables_bound = p.variables_bound;
      blocks_bound = p.blocks_bound;
      nodes_limit = p.nodes_limit;
      names_limit = p.names_limit;
    }

leading_le : (t : Table) → leading_count t ≤ t.size
unfolding leading_count
leading_le t = lowest_le (stops t) t.size

leading_length : (t : Table) → length (leading_blocks t) ≡ leading_count t
unfolding leading_blocks outermost
leading_length t = length_each (λ j. block_of (from_root t j)) (leading_count t)

module _ (ws ls : List ℕ) (ok : verdict ws ls ≡ accepted) where
  abbrev t : Table
  t = table_of ws ls

  -- The table below, its words, and the blocks in front of its lift.
  abbrev s : Table
  s = below ws ls

  abbrev us : List ℕ
  us = words_below (leading_count t) ws

  abbrev front : List Block
  front = front_blocks s (leading_blocks t)

  abbrev blocks : List Block
  blocks = kept_blocks ws ls

  off_all : Below ws ls (leading_count t)
  unfolding table_of
  off_all = blocks_below ws ls (leading_count t) ok (leading_le t) (leading_most t).blocks

  lift : PrenexOf s (written_nodes s) (written_prefix s) (written_variables s)
  unfolding below
  lift = prenex us ls off_all.accepts

  -- The sizes of the table below.
  size_less : t.size ≡ s.size + leading_count t
  unfolding below table_of
  size_less = off_all.nodes_less

  blocks_less : block_count t ≡ block_count s + leading_count t
  unfolding below
  blocks_less = off_all.blocks_less

  bound_less : bound_count t ≡ bound_count s + length (prefix_names (leading_blocks t))
  unfolding below leading_blocks
  bound_less = off_all.bound_less

  depth_less : depth t ≡ depth s + leading_count t
  unfolding below
  depth_less = off_all.depth_less

  -- Its nodes are the table's, so no number of it is higher.
  number_less : highest_number s ≤ highest_number t
  unfolding highest_number below table_of
  number_less =
      highest_le (λ i. highest_at (node_at us ls i)) (node_count us) (highest (λ i. highest_at (node_at ws ls i)) (node_count ws))
      (λ i h.
      let l : i < node_count ws - leading_count t = omega (arith, off_all.nodes_less) in
      let e = node_below ws ls (accepted_holds ws ls ok) (leading_count t) (leading_le t) i l in
      omega (arith, ap highest_at e, highest_ge (λ i. highest_at (node_at ws ls i)) (node_count ws) i (omega arith)))

  name_less : highest_name s ≤ highest_name t
  name_less = omega (arith, number_less, bound_less, blocks_less)

  -- The form over the table below.
  same_truth : (v : Valuation) → form_truth (kept_nodes ws ls) (kept_prefix ws ls) (kept_variables ws ls) v ≡ truth t v
  unfolding below leading_blocks kept_nodes kept_prefix kept_variables kept_blocks
  same_truth v = over_truth us ls off_all.accepts (leading_blocks t) v ∙ off_all.truth_kept v

  same_free : (x : ℕ) → form_free (kept_nodes ws ls) (kept_prefix ws ls) (kept_variables ws ls) x ≡ free t x
  unfolding below leading_blocks kept_nodes kept_prefix kept_variables kept_blocks table_of
  same_free x =
      over_free us ls off_all.accepts (leading_blocks t) x ∙ sym (free_below ws ls ok (leading_count t) (leading_le t) (leading_most t).blocks x)

  bound_once : distinct (prefix_names blocks) ≡ true
  unfolding below kept_blocks
  bound_once = over_distinct us ls off_all.accepts (leading_blocks t) (leading_most t).apart

  prefix_names_lem : all (is_number_to (highest_name t)) (prefix_names blocks) ≡ true
  unfolding below kept_blocks
  prefix_names_lem = over_numbers us ls off_all.accepts (leading_blocks t) (highest_name t) name_less

  filled : Filled blocks
  unfolding below kept_blocks
  filled = over_filled us ls off_all.accepts (leading_blocks t)

  entries_few : length (prefix_names blocks) ≤ length (prefix_names front) + 2 * bound_count s + block_count s
  unfolding below kept_blocks
  entries_few = over_entries us ls off_all.accepts (leading_blocks t)

  blocks_few : length blocks ≤ length front + depth s + 1
  unfolding below kept_blocks
  blocks_few = over_blocks us ls off_all.accepts (leading_blocks t)

  front_names_few : length (prefix_names front) ≤ length (prefix_names (leading_blocks t))
  unfolding below
  front_names_few = front_entries us ls off_all.accepts (leading_blocks t)

  form : FormOf t (kept_nodes ws ls) (kept_prefix ws ls) (kept_variables ws ls)
  unfolding kept_nodes kept_prefix kept_variables
  form =
      record {
        same_truth = same_truth;
        table_by_free = coincidence t;
        form_by_free = λ v u agree. same_truth v ∙ coincidence t v u agree ∙ sym (same_truth u);
        same_free = same_free;
        bound_once = bound_once;
        whole_nodes = lift.whole_nodes;
        matrix_formed = λ i h. formed_mono (highest_name s) (highest_name t) (words_at (written_nodes s) i) name_less (lift.matrix_formed i h);
        matrix_tree = lift.matrix_tree;
        prefix_names_lem = prefix_names_lem;
        whole_blocks = words_whole blocks;
        block_kinds_from = words_kinds_from blocks;
        block_kinds_to = words_kinds_to blocks;
        ranges_follow = words_ranges_follow blocks;
        ranges_fill = words_ranges_fill blocks;
        blocks_filled = words_filled blocks filled;
        nodes_bound = omega (arith, lift.nodes_bound, size_less, blocks_less, bound_less);
        variables_bound = omega (arith, entries_few, front_names_few, bound_less, blocks_less);
        blocks_bound = omega (arith, words_blocks blocks, blocks_few, front_few s (leading_blocks t), leading_length t, depth_less);
        nodes_limit = lift.nodes_limit;
        names_limit = (prenex ws ls ok).names_limit;
      }

  sizes_are : SizesOf (kept_sizes ws ls) (kept_nodes ws ls) (kept_prefix ws ls) (kept_variables ws ls)
  unfolding kept_sizes kept_nodes kept_prefix sizes
  sizes_are =
      record {
        nodes_measured = (sizes_written s).nodes_measured;
        blocks_measured = length-prefix_words 0 blocks;
        entries_measured = refl;
      }

  front_names_lem : (x : ℕ) → mem x (prefix_names front) ≡ true → x ≤ highest_number s
  unfolding below
  front_names_lem = front_low us ls off_all.accepts (leading_blocks t)

  new_names_lem : (x : ℕ) → mem x (written_variables s) ≡ true → highest_number s < x
  unfolding below
  new_names_lem = lift.names_new

pub kept_prenex : KeptPrenex
unfolding kept_nodes kept_variables kept_sizes
kept_prenex ws ls ok =
    record {
      form = form ws ls ok;
      sizes_are = sizes_are ws ls ok;
      nodes_few = (lift ws ls ok).nodes_bound;
      variables_few = entries_few ws ls ok;
      blocks_few = blocks_few ws ls ok;
      front_names_lem = front_names_lem ws ls ok;
      new_names_lem = new_names_lem ws ls ok;
    }
