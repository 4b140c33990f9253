-- List entries that no block covers change no outcome.
-- Assumes nothing.
use mathlib.Core.Path.{◌≡◌, refl, sym, ◌∙◌, ap, fun_ext}
use mathlib.Core.Bool.{Bool, true, false, not}
use mathlib.Core.List.{List}
use Prim.Native.Nat.{ℕ, ◌+◌, ◌*◌, ◌%◌, ◌≤◌, ◌<◌}
use native.Mathlib.Omega.{arith}
use lib.Dec.{eqb, ltb}
use lib.ListN.{length, get_or, length-take, length-drop}
use lib.Seq.{ext_get_or}
use borrow.Author.Tests.{eqb-true, ltb-true, ltb-false, le-leb, lt-ltb}
use Rattle.lists.specs.Choice.{pick, pick_yes, pick_no, Is, is_true, is_false, look, clash, and_both, and_off_left, or_neither_right}
use Rattle.formula.specs.Node.{exists, for_all, Node, block, Table}
use Rattle.formula.specs.Words.{width, node_count, field, is_block_kind, range, words_at, node_at, table_of}
use Rattle.formula.specs.FreeVariables.{free_variables}
use Rattle.formula.proofs.Nodes.{Kind, kind_constant, kind_variable, kind_negation, kind_operator, kind_exists, kind_for_all, kind_none, kind_of_lem, node_constant, node_variable, node_negation, node_operator, node_exists, node_for_all, node_none, kind_past}
use Rattle.formula.proofs.Ranges.{range_at}
use Rattle.refusals.specs.Verdict.{refusal}
use Rattle.refusals.specs.declared.Verdict.{Verdict}
use Rattle.refusals.specs.Outcome.{refused, done, answer_unless_refused, unless_refused, unless_short}
use Rattle.acceptance.specs.Limits.{TableLimits, table_limits, stored_limits}
use Rattle.acceptance.specs.Verdict.{partial_node, too_large, range_past_end, bad_variable, node_fault, not_named_once, tree_refusal, verdict_within}
use Rattle.empty_blocks.specs.Removal.{without_empty_blocks}
use Rattle.prenex_form.specs.Sizes.{sizes}
use Rattle.prenex.specs.Outcome.{no_sizes, measured, too_short, written, lifted}
use Rattle.free_variables.specs.Outcome.{listing, listed}
use Rattle.remove_empty_blocks.specs.Outcome.{storing, removed}
use Rattle.covered_entries.specs.CoveredEntries.{SameRanges, CoveredAlone, SameOutcomes, ByRanges}

-- a node whose range is the same in both lists
node_same : (ws ls ls' : List ℕ) (i : ℕ)
    → (is_block_kind (field ws i 0) ≡ true → range ls (field ws i 1) (field ws i 2) ≡ range ls' (field ws i 1) (field ws i 2))
    → node_at ws ls i ≡ node_at ws ls' i
unfolding is_block_kind
node_same ws ls ls' i r = go (kind_of_lem (field ws i 0))
  where
    go : Kind (field ws i 0) → node_at ws ls i ≡ node_at ws ls' i
    go (kind_constant e) = node_constant ws ls i e ∙ sym (node_constant ws ls' i e)
    go (kind_variable e) = node_variable ws ls i e ∙ sym (node_variable ws ls' i e)
    go (kind_negation e) = node_negation ws ls i e ∙ sym (node_negation ws ls' i e)
    go (kind_operator e) = node_operator ws ls i e ∙ sym (node_operator ws ls' i e)
    go (kind_exists e) =
        node_exists ws ls i e ∙ ap (λ (xs : List ℕ). block exists xs (field ws i 3)) (r (rw e)) ∙ sym (node_exists ws ls' i e)
    go (kind_for_all e) =
        node_for_all ws ls i e ∙ ap (λ (xs : List ℕ). block for_all xs (field ws i 3)) (r (rw e)) ∙ sym (node_for_all ws ls' i e)
    go (kind_none a b c d e f) = node_none ws ls i a b c d e f ∙ sym (node_none ws ls' i a b c d e f)

module _ (ws ls ls' : List ℕ) (s : SameRanges ws ls ls') where
  -- words that are whole nodes
  module _ (whole : partial_node ws ≡ false) where
    whole_nodes : length ws ≡ width * node_count ws
    unfolding partial_node
    whole_nodes =
        let r : (length ws % width) ≡ 0 = eqb-true _ 0 (not_off _ (or_neither_right (eqb (length ws) 0) (not (eqb (length ws % width) 0)) whole)) in
        omega arith
      where
        not_off : (b : Bool) → not b ≡ false → b ≡ true
        not_off true h = refl
        not_off false h = clash refl h

    -- no block stands past the last
    ranges : (i : ℕ) → is_block_kind (field ws i 0) ≡ true → range ls (field ws i 1) (field ws i 2) ≡ range ls' (field ws i 1) (field ws i 2)
    unfolding is_block_kind
    ranges i b = go (look (ltb i (node_count ws)))
      where
        go : Is (ltb i (node_count ws)) → range ls (field ws i 1) (field ws i 2) ≡ range ls' (field ws i 1) (field ws i 2)
        go (is_true h) = cc (s.same_range i (ltb-true i _ h) b)
        go (is_false h) = clash b (rw (kind_past ws ls whole_nodes i (ltb-false i _ h)))

    table_same : table_of ws ls ≡ table_of ws ls'
    unfolding table_of
    table_same =
        ap (λ (f : ℕ → Node). record { size = node_count ws; node = f }) (fun_ext (λ i. node_same ws ls ls' i (ranges i)))

    past_same : (i : ℕ) → range_past_end ls (words_at ws i) ≡ range_past_end ls' (words_at ws i)
    unfolding range_past_end
    past_same i = rw s.same_length

    bad_same : (lim : TableLimits) (i : ℕ) → Is (is_block_kind (field ws i 0)) → bad_variable lim ls (words_at ws i) ≡ bad_variable lim ls' (words_at ws i)
    unfolding bad_variable
    bad_same lim i (is_true b) = rw (ranges i b)
    bad_same lim i (is_false b) = and_off_left _ _ b ∙ sym (and_off_left _ _ b)

    fault_same : (lim : TableLimits) (i : ℕ) → node_fault lim ws ls i ≡ node_fault lim ws ls' i
    unfolding node_fault
    fault_same lim i = rw (past_same i, bad_same lim i (look (is_block_kind (field ws i 0))))

    named_same : (i : ℕ) → not_named_once ws ls i ≡ not_named_once ws ls' i
    unfolding not_named_once
    named_same i = rw table_same

    whole_verdict : (lim : TableLimits) → verdict_within lim ws ls ≡ verdict_within lim ws ls'
    unfolding verdict_within too_large tree_refusal
    whole_verdict lim =
        rw (
          s.same_length,
          table_same,
          fun_ext {f = node_fault lim ws ls} {g = node_fault lim ws ls'} (fault_same lim),
          fun_ext {f = not_named_once ws ls} {g = not_named_once ws ls'} named_same,
        )

  partial_verdict : partial_node ws ≡ true → (lim : TableLimits) (xs : List ℕ) → verdict_within lim ws xs ≡ refusal 1 0
  unfolding verdict_within
  partial_verdict p lim xs = pick_yes _ _ _ p

  verdict_same : (lim : TableLimits) → verdict_within lim ws ls ≡ verdict_within lim ws ls'
  verdict_same lim = go (look (partial_node ws))
    where
      go : Is (partial_node ws) → verdict_within lim ws ls ≡ verdict_within lim ws ls'
      go (is_true p) = partial_verdict p lim ls ∙ sym (partial_verdict p lim ls')
      go (is_false p) = whole_verdict p lim

  -- What any call gives: something of the verdict where it refuses, else something of the table.
  call_same : {A : Type 0} (lim : TableLimits) (next : Table → A) (stop : Verdict → A)
      → pick (eqb (verdict_within lim ws ls).number 0) (next (table_of ws ls)) (stop (verdict_within lim ws ls))
      ≡ pick (eqb (verdict_within lim ws ls').number 0) (next (table_of ws ls')) (stop (verdict_within lim ws ls'))
  unfolding refusal
  call_same lim next stop = go (look (partial_node ws))
    where
      go : Is (partial_node ws)
          → pick (eqb (verdict_within lim ws ls).number 0) (next (table_of ws ls)) (stop (verdict_within lim ws ls))
          ≡ pick (eqb (verdict_within lim ws ls').number 0) (next (table_of ws ls')) (stop (verdict_within lim ws ls'))
      go (is_true p) = rw (partial_verdict p lim ls, partial_verdict p lim ls') (pick_no _ _ _ refl ∙ sym (pick_no _ _ _ refl))
      go (is_false p) = rw (verdict_same lim, table_same p)

  outcomes : SameOutcomes ws ls ls'
  unfolding measured lifted listed removed answer_unless_refused unless_refused
  outcomes =
      record {
        same_verdict = verdict_same;
        same_nodes = λ i h. node_same ws ls ls' i (λ b. cc (s.same_range i h b));
        same_measured = call_same table_limits (λ t. done (sizes t)) (λ v. refused v no_sizes);
        same_lifted = λ before. call_same table_limits
            (λ t. unless_short (too_short t before) no_sizes before (record { answer = done (sizes t); buffers = written t before }))
            (λ v. record { answer = refused v no_sizes; buffers = before });
        same_listed = λ names. call_same table_limits (λ t. listing names (free_variables t)) (λ v. record { answer = refused v 0; buffers = names });
        same_removed = λ nodes. call_same stored_limits (λ t. storing nodes (without_empty_blocks ws)) (λ v. record { answer = refused v 0; buffers = nodes });
      }

pub by_ranges : ByRanges
by_ranges ws ls ls' s = outcomes ws ls ls' s

-- ranges of lists that agree in them
range_same : (ls ls' : List ℕ) (first count : ℕ) → length ls ≡ length ls'
    → ((k : ℕ) → first ≤ k → k < first + count → get_or ls k 0 ≡ get_or ls' k 0) → range ls first count ≡ range ls' first count
unfolding range
range_same ls ls' first count e same = ext_get_or 0 (range ls first count) (range ls' first count) lengths entries
  where
    lengths : length (range ls first count) ≡ length (range ls' first count)
    lengths = simp (length-take, length-drop, e)

    below : (k : ℕ) → k < length (range ls first count) → k < count
    below k h = let z = simp length-take at h in omega arith

    entries : (k : ℕ) → k < length (range ls first count) → get_or (range ls first count) k 0 ≡ get_or (range ls' first count) k 0
    entries k h =
        let l = below k h in
        range_at ls first count k 0 l ∙ same (first + k) (omega arith) (omega arith) ∙ sym (range_at ls' first count k 0 l)

pub covered_alone : CoveredAlone
covered_alone ws ls ls' e same =
    record {
      same_length = cc e;
      same_range = λ i h b.
          cc (range_same ls ls' (field ws i 1) (field ws i 2) e
          (λ k l m. same i k h (and_both _ _ (and_both _ _ b (le-leb _ k l)) (lt-ltb k _ m))));
    }
