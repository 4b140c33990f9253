-- What holds of a form whether the leading blocks are lifted or kept.
-- Assumes nothing.
use mathlib.Core.Path.{◌≡◌, refl, sym, ◌∙◌, ap}
use mathlib.Core.List.{List}
use Prim.Native.Nat.{ℕ, suc, ◌+◌, ◌≤◌}
use native.Mathlib.Omega.{arith}
use lib.Dec.{eqb}
use lib.ListN.{length, length-append}
use Rattle.lists.proofs.Parts.{length_each, highest_le, pick_within}
use Rattle.formula.specs.Node.{Table}
use Rattle.formula.specs.Words.{table_of}
use Rattle.formula.specs.Tree.{Tree}
use Rattle.refusals.specs.Verdict.{accepted}
use Rattle.acceptance.specs.Verdict.{verdict}
use Rattle.acceptance.proofs.Accepted.{accepted_holds, number_zero}
use Rattle.prenex_form.specs.declared.Sizes.{Sizes}
use Rattle.prenex_form.specs.Scope.{depth, level}
use Rattle.prenex_form.specs.Levels.{levels}
use Rattle.prenex_form.specs.Names.{bound_count}
use Rattle.prenex_form.specs.Prefix.{block_count, prefix_blocks}
use Rattle.prenex_form.specs.Sizes.{sizes}
use Rattle.prenex_form.specs.Promise.{SizesOf}
use Rattle.prenex_form.proofs.Paths.{level_below}
use Rattle.prenex_form.proofs.PrefixNames.{prefix_levels, block_count-le}
use Rattle.prenex_form.proofs.Theorem.{prenex, sizes_written}
use Rattle.formula.proofs.Prefix.{length-prefix_words}
use Rattle.refusals.specs.declared.Verdict.{Verdict}
use Rattle.refusals.specs.Outcome.{Outcome, refused}
use Rattle.prenex.specs.declared.Answer.{Answer}
use Rattle.prenex.specs.Outcome.{no_sizes, answer_of, FormBuffers, lifted, after}
use Rattle.lift_kept.specs.FormOutcome.{SizesAnswered, FormOwed, FormIn}
use Rattle.lift_kept.proofs.Outcomes.{refused_form, lifted_outcome, outcome_done, outcome_sizes, outcome_form}
use Rattle.prenex.proofs.Measured.{count_limit, bound_few}
use Rattle.kept_prefix.specs.declared.Prefix.{Prefix}
use Rattle.kept_prefix.specs.declared.Prefix.TheVariants.{Lifted, Kept}
use Rattle.kept_prefix.specs.Leading.{leading_count, outermost, words_below, below}
use Rattle.kept_prefix.specs.Kept.{front_blocks, kept_blocks, kept_nodes, kept_prefix, kept_variables, kept_sizes}
use Rattle.kept_prefix.specs.Promise.{KeptOf}
use Rattle.kept_prefix.proofs.Kept.{front_few}
use Rattle.kept_prefix.proofs.Theorem.{kept_prenex, lift_form}
use Rattle.lift_kept.specs.Outcome.{kept_form, lifted_kept, form_as, sizes_as, outcome_as}
use Rattle.lift_kept.proofs.Form.{off, below_accepted, blocks_parts}

-- It is a prenex form of the table, and these are its sizes.
pub form_as_lem : (way : Prefix) (ws ls : List ℕ) → verdict ws ls ≡ accepted → FormIn (table_of ws ls) (form_as way ws ls)
unfolding form_as
form_as_lem Lifted ws ls ok = lift_form (table_of ws ls) _ _ _ (prenex ws ls ok)
form_as_lem Kept ws ls ok = (kept_prenex ws ls ok).form

pub sizes_as_lem : (way : Prefix) (ws ls : List ℕ) → verdict ws ls ≡ accepted
    → SizesOf (sizes_as way ws ls) (form_as way ws ls).nodes (form_as way ws ls).prefix (form_as way ws ls).variables
unfolding form_as sizes_as
sizes_as_lem Lifted ws ls ok = sizes_written (table_of ws ls)
sizes_as_lem Kept ws ls ok = (kept_prenex ws ls ok).sizes_are

-- The other sizes are the table's.
pub record TableSizes (t : Table) (s : Sizes) : Type 0 where
  pub nodes_are : s.n ≡ t.size
  pub blocks_are : s.b ≡ block_count t
  pub bound_is : s.q ≡ bound_count t
  pub depth_is : s.depth ≡ depth t

pub table_sizes : (way : Prefix) (ws ls : List ℕ) → TableSizes (table_of ws ls) (sizes_as way ws ls)
unfolding sizes_as sizes kept_sizes
table_sizes Lifted ws ls = record { nodes_are = refl; blocks_are = refl; bound_is = refl; depth_is = refl }
table_sizes Kept ws ls = record { nodes_are = refl; blocks_are = refl; bound_is = refl; depth_is = refl }

-- A lift has at most one prefix block more than the table has nodes.
few_blocks : (t : Table) → Tree t → length (prefix_blocks t) ≤ t.size + 1
unfolding levels
few_blocks t tree =
    let l : levels t ≤ t.size = highest_le (level t) t.size t.size (λ i h. let b = level_below t tree i h in omega (arith, b)) in
    rw (prefix_levels t) (pick_within (eqb (block_count t) 0) 0 (suc (levels t)) (t.size + 1) (omega arith) (omega (arith, l)))

tree_of : (ws ls : List ℕ) → verdict ws ls ≡ accepted → Tree (table_of ws ls)
tree_of ws ls ok = (accepted_holds ws ls ok).proper.tree

outermost_length : (t : Table) (k : ℕ) → length (outermost t k) ≡ k
unfolding outermost
outermost_length t k = length_each _ k

-- The most blocks and variables.
pub blocks_most : (way : Prefix) (ws ls : List ℕ) → verdict ws ls ≡ accepted → (sizes_as way ws ls).blocks ≤ 4097
unfolding sizes_as sizes kept_sizes table_of below
blocks_most Lifted ws ls ok = omega (arith, few_blocks (table_of ws ls) (tree_of ws ls ok), count_limit ws ls ok)
blocks_most Kept ws ls ok =
    let t = table_of ws ls in
    let k = leading_count t in
    let front = front_blocks t (outermost t k) in
    let few = few_blocks (below ws ls) (tree_of (words_below k ws) ls (below_accepted ws ls ok)) in
    omega (
      arith,
      ap length (blocks_parts ws ls ok),
      length-append front (prefix_blocks (below ws ls)),
      front_few t (outermost t k),
      outermost_length t k,
      few,
      (off ws ls ok).nodes_less,
      count_limit ws ls ok,
    )

pub variables_most : (way : Prefix) (ws ls : List ℕ) → verdict ws ls ≡ accepted → length (form_as way ws ls).variables ≤ 12288
unfolding table_of
variables_most way ws ls ok =
    omega (arith, (form_as_lem way ws ls ok).variables_bound, bound_few ws ls ok, count_limit ws ls ok, block_count-le (table_of ws ls))

-- What either way leaves is what comes of the table by it.
module _ (way : Prefix) (ws ls : List ℕ) (o : Outcome Sizes FormBuffers) (before : FormBuffers) where
  pub as_lifted : way ≡ Lifted → o ≡ lifted ws ls before → o ≡ outcome_as way ws ls before
  unfolding outcome_as form_as sizes_as
  as_lifted e h = h ∙ lifted_outcome ws ls before ∙ ap (λ (w : Prefix). outcome_as w ws ls before) (sym e)

  pub as_kept : way ≡ Kept → o ≡ lifted_kept ws ls before → o ≡ outcome_as way ws ls before
  unfolding lifted_kept outcome_as form_as sizes_as
  as_kept e h = h ∙ ap (λ (w : Prefix). outcome_as w ws ls before) (sym e)

-- A table that is refused.
pub refused_kept : (ws ls : List ℕ) (v : Verdict) → v ≡ verdict ws ls → (v.number ≡ 0 → ⊥) → (r : Answer) → answer_of r ≡ refused v no_sizes
    → (before : FormBuffers) → after r before ≡ lifted_kept ws ls before
unfolding lifted_kept
refused_kept ws ls v is n r e before = refused_form ws ls v is n r e _ _ before

-- The sizes are those of the lists, accepted or not.
kept_measured : (ws ls : List ℕ) → SizesOf (kept_sizes ws ls) (kept_nodes ws ls) (kept_prefix ws ls) (kept_variables ws ls)
unfolding kept_sizes kept_nodes kept_prefix kept_variables sizes
kept_measured ws ls =
    record {
      nodes_measured = (sizes_written (below ws ls)).nodes_measured;
      blocks_measured = length-prefix_words 0 (kept_blocks ws ls);
      entries_measured = refl;
    }

-- All that is promised follows from the outcome.
pub promised : (ws ls : List ℕ) (o : Outcome Sizes FormBuffers) (before : FormBuffers) → o ≡ lifted_kept ws ls before
    → (o ≡ lifted_kept ws ls before)
    × (SizesAnswered (kept_form ws ls) o.answer × (FormOwed (FormIn (table_of ws ls)) o × (o.answer.verdict.number ≡ 0 → KeptOf ws ls)))
unfolding lifted_kept
promised ws ls o before e =
    let m = kept_measured ws ls in (
      e,
      (
        outcome_sizes ws ls (kept_form ws ls) (kept_sizes ws ls) m before o e,
        (
          outcome_form ws ls (kept_form ws ls) (kept_sizes ws ls) m before o e (FormIn (table_of ws ls)) (λ ok. (kept_prenex ws ls ok).form),
          λ z. kept_prenex ws ls (number_zero ws ls (outcome_done (verdict ws ls) (kept_form ws ls) (kept_sizes ws ls) before o e z).0),
        ),
      ),
    )
