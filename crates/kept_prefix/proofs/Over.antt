-- Blocks in front of the lift of an accepted table: truth value, free names, names and sizes.
-- Assumes nothing.
use mathlib.Core.Path.{◌≡◌, refl, sym, ◌∙◌, ap, fun_ext}
use mathlib.Core.Bool.{Bool, true, false, not, ◌&&◌, ◌||◌, and-true}
use mathlib.Core.List.{List, [], ◌++◌}
use Prim.Native.Nat.{ℕ, ◌+◌, ◌*◌, ◌≤◌}
use native.Mathlib.Omega.{arith}
use lib.ListN.{length, length-append}
use Rattle.lists.specs.Members.{mem, all, distinct}
use Rattle.lists.proofs.Members.{all_mem, all_intro, all_append, distinct_append}
use Rattle.kept_prefix.proofs.Keep.{mem_keep, kept_passes, length_keep, distinct_keep}
use Rattle.formula.specs.Node.{Table}
use Rattle.formula.specs.Words.{table_of}
use Rattle.formula.specs.Valuation.{Valuation}
use Rattle.formula.specs.Truth.{truth, free}
use Rattle.formula.specs.Form.{Block, prefix_words, blocks_of, quantify, matrix_truth, form_truth, binds, form_free}
use Rattle.kept_prefix.specs.Blocks.{prefix_names}
use Rattle.kept_prefix.proofs.Blocks.{Filled, filled_append}
use Rattle.formula.proofs.Prefix.{words_read, binds_mem}
use Rattle.formula.proofs.Quantify.{quantify_append}
use Rattle.formula.proofs.Coincidence.{Only, coincidence}
use Rattle.refusals.specs.Verdict.{accepted}
use Rattle.acceptance.specs.Verdict.{is_number_to, verdict}
use Rattle.acceptance.specs.Accepted.{Accepted}
use Rattle.acceptance.proofs.Accepted.{accepted_holds}
use Rattle.prenex_form.specs.Scope.{depth}
use Rattle.prenex_form.specs.Names.{highest_number, bound_count}
use Rattle.prenex_form.specs.Matrix.{written_nodes}
use Rattle.prenex_form.specs.Prefix.{block_count, prefix_blocks, written_prefix, written_variables}
use Rattle.prenex_form.specs.Promise.{highest_name, PrenexOf}
use Rattle.prenex_form.proofs.Theorem.{prenex}
use Rattle.kept_prefix.proofs.Laws.{binds_append, number_mono}
use Rattle.prenex_form.proofs.Limits.{is_number_lem}
use Rattle.prenex_form.proofs.PrefixNames.{prefix_read}
use Rattle.prenex_form.proofs.PrefixShape.{prefix_count_lem}
use Rattle.kept_prefix.proofs.PrefixShape.{blocks_filled}
use Rattle.kept_prefix.specs.Kept.{stands, front_blocks}
use Rattle.kept_prefix.proofs.Leading.{names_append}
use Rattle.kept_prefix.proofs.Kept.{front_truth, front_kept, front_filled}
use Rattle.kept_prefix.proofs.Stands.{free_stands, stands_low, stands_from_one}

-- What is free in the matrix, and bound neither in front nor by the lift.
not_either : (m k l f : Bool) → (m && not l) ≡ f → (m && not (k || l)) ≡ (f && not k)
not_either true true true f e = rw (← e)
not_either true true false f e = rw (← e)
not_either true false true f e = rw (← e)
not_either true false false f e = rw (← e)
not_either false k l f e = rw (← e)

-- A name that is free passes.
passes_free : (f m p : Bool) → (f ≡ true → p ≡ true) → (f && not (m && p)) ≡ (f && not m)
passes_free true m p h = ap (λ b. not (m && b)) (h refl) ∙ ap not (and-true m)
passes_free false m p h = refl

module _ (ws ls : List ℕ) (ok : verdict ws ls ≡ accepted) (bs : List Block) where
  abbrev s : Table
  s = table_of ws ls

  abbrev front : List Block
  front = front_blocks s bs

  abbrev blocks : List Block
  blocks = front ++ prefix_blocks s

  a : Accepted ws ls
  a = accepted_holds ws ls ok

  lift : PrenexOf s (written_nodes s) (written_prefix s) (written_variables s)
  lift = prenex ws ls ok

  blocks_read : blocks_of (prefix_words 0 blocks) (prefix_names blocks) ≡ blocks
  unfolding prefix_names
  blocks_read = words_read blocks

  -- The table looks at names that stand at a variable node.
  looks : Only (stands s) (truth s)
  looks v u same = coincidence s v u (λ x e. same x (free_stands s x a.proper.tree e))

  -- The lifted prefix over the lifted nodes is the table.
  lift_truth : (v : Valuation) → quantify (prefix_blocks s) (matrix_truth (written_nodes s)) v ≡ truth s v
  unfolding form_truth
  lift_truth v = ap (λ cs. quantify cs (matrix_truth (written_nodes s)) v) (sym (prefix_read s)) ∙ lift.same_truth v

  pub over_truth : (v : Valuation) → form_truth (written_nodes s) (prefix_words 0 blocks) (prefix_names blocks) v ≡ quantify bs (truth s) v
  unfolding form_truth
  over_truth v =
      ap (λ cs. quantify cs (matrix_truth (written_nodes s)) v) blocks_read
      ∙ quantify_append front (prefix_blocks s) (matrix_truth (written_nodes s)) v
      ∙ ap (λ g. quantify front g v) (fun_ext lift_truth)
      ∙ front_truth s bs (truth s) looks v

  -- Free names.
  lift_free : (x : ℕ) → (free (table_of (written_nodes s) []) x && not (binds (prefix_blocks s) x)) ≡ free s x
  unfolding form_free
  lift_free x = ap (λ cs. free (table_of (written_nodes s) []) x && not (binds cs x)) (sym (prefix_read s)) ∙ lift.same_free x

  binds_front : (x : ℕ) → binds front x ≡ (mem x (prefix_names bs) && stands s x)
  unfolding prefix_names
  binds_front x = binds_mem front x ∙ ap (mem x) (front_kept s bs) ∙ mem_keep (stands s) (prefix_names bs) x

  pub over_free : (x : ℕ) → form_free (written_nodes s) (prefix_words 0 blocks) (prefix_names blocks) x ≡ (free s x && not (mem x (prefix_names bs)))
  unfolding form_free
  over_free x =
      let m = free (table_of (written_nodes s) []) x in
      ap (λ cs. m && not (binds cs x)) blocks_read
      ∙ ap (λ b. m && not b) (binds_append front (prefix_blocks s) x)
      ∙ not_either m (binds front x) (binds (prefix_blocks s) x) (free s x) (lift_free x)
      ∙ ap (λ b. free s x && not b) (binds_front x)
      ∙ passes_free (free s x) (mem x (prefix_names bs)) (stands s x) (free_stands s x a.proper.tree)

  -- Names.
  pub over_names : prefix_names blocks ≡ prefix_names front ++ written_variables s
  unfolding written_variables prefix_names
  over_names = names_append front (prefix_blocks s)

  front_stands : (x : ℕ) → mem x (prefix_names front) ≡ true → stands s x ≡ true
  front_stands x m = kept_passes (stands s) (prefix_names bs) x (sym (ap (mem x) (front_kept s bs)) ∙ m)

  pub front_low : (x : ℕ) → mem x (prefix_names front) ≡ true → x ≤ highest_number s
  front_low x m = stands_low s x (front_stands x m)

  pub over_distinct : distinct (prefix_names bs) ≡ true → distinct (prefix_names blocks) ≡ true
  over_distinct apart =
      ap distinct over_names
      ∙ distinct_append (prefix_names front) (written_variables s)
      (ap distinct (front_kept s bs) ∙ distinct_keep (stands s) (prefix_names bs) apart) lift.bound_once
      (λ x m n. omega (arith, front_low x m, lift.names_new x n))

  pub over_numbers : (most : ℕ) → highest_name s ≤ most → all (is_number_to most) (prefix_names blocks) ≡ true
  over_numbers most h =
      ap (all (is_number_to most)) over_names
      ∙ all_append (is_number_to most) (prefix_names front) (written_variables s)
      (all_intro (is_number_to most) (prefix_names front)
      (λ x m. is_number_lem most x (stands_from_one ws ls a x (front_stands x m)) (omega (arith, front_low x m))))
      (all_intro (is_number_to most) (written_variables s)
      (λ x m. number_mono (highest_name s) most x h (all_mem (is_number_to (highest_name s)) (written_variables s) x lift.prefix_names_lem m)))

  -- Sizes.
  pub over_filled : Filled blocks
  over_filled = filled_append front (prefix_blocks s) (front_filled s bs) (blocks_filled s a.proper.tree (a.filled refl))

  pub over_entries : length (prefix_names blocks) ≤ length (prefix_names front) + 2 * bound_count s + block_count s
  over_entries = omega (arith, ap length over_names, length-append (prefix_names front) (written_variables s), lift.variables_bound)

  pub front_entries : length (prefix_names front) ≤ length (prefix_names bs)
  front_entries = omega (arith, ap length (front_kept s bs), length_keep (stands s) (prefix_names bs))

  pub over_blocks : length blocks ≤ length front + depth s + 1
  over_blocks = omega (arith, length-append front (prefix_blocks s), lift.blocks_bound, prefix_count_lem s)
