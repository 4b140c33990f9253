-- Two tables that differ in the numbers of bound variables alone, and have one highest number, are written alike (request S-12).
-- Assumes nothing.
use mathlib.Core.Path.{◌≡◌, refl, sym, ◌∙◌, ap, subst}
use mathlib.Core.Bool.{true, false}
use mathlib.Core.List.{List}
use Prim.Native.Nat.{ℕ, ◌≤◌, ◌<◌}
use native.Mathlib.Omega.{arith}
use lib.Dec.{ltb}
use lib.ListN.{length}
use borrow.Author.Tests.{ltb-true, ltb-false}
use Rattle.lists.specs.Choice.{pick, pick_yes, pick_no, Is, is_true, is_false, look, clash}
use Rattle.lists.specs.Members.{place}
use Rattle.formula.specs.Node.{Node, variable, Table, bound}
use Rattle.formula.specs.Words.{node_count, node_at, table_of}
use Rattle.formula.proofs.Nodes.{node_past}
use Rattle.refusals.specs.Verdict.{refusal, accepted}
use Rattle.refusals.specs.Outcome.{Outcome, refused, done, unless_short}
use Rattle.refusals.proofs.Outcome.{call_next, call_room, call_short}
use Rattle.acceptance.specs.Verdict.{verdict}
use Rattle.acceptance.proofs.Accepted.{accepted_holds}
use Rattle.prenex_form.specs.declared.Sizes.{Sizes}
use Rattle.prenex_form.specs.Scope.{binder}
use Rattle.prenex_form.specs.Names.{highest_number, new_name}
use Rattle.prenex_form.specs.Sizes.{sizes}
use Rattle.prenex_form.proofs.Theorem.{prenex, same_list}
use Rattle.prenex.specs.Outcome.{no_sizes, measured, FormBuffers, written_form, too_short, written, lifted}
use Rattle.prenex.proofs.Form.{lifted_left}
use Rattle.file_to_file.specs.FileToFile.{lifted_text}
use Rattle.file_to_file.specs.FileToClauses.{lifted_clauses}
use Rattle.file_to_file.proofs.Theorem.{was_read}
use Rattle.alpha_equivalence.specs.AlphaEquivalence.{unnamed, is_bound_at, SameVariable, Interchangeable}
use Rattle.alpha_equivalence.specs.Lifts.{SameLengths, SameMeaning, LiftedAlike, AlphaEquivalentLifts}
use Rattle.alpha_equivalence.specs.Files.{EqualFiles}
use Rattle.alpha_equivalence.proofs.Congruence.{table, first_name-same, form_same, sizes_same}

-- Two tables of one size whose nodes differ in variable numbers alone, also past their last.
module _ (n : ℕ) (f g : ℕ → Node) (same : (i : ℕ) → unnamed (f i) ≡ unnamed (g i)) (top : highest_number (table n f) ≡ highest_number (table n g)) where
  module _ (i x y : ℕ) (v : SameVariable (table n f) (table n g) i x y) where
    -- the new name of a variable node that is bound in both
    bound_name : is_bound_at (table n f) i x ≡ true → is_bound_at (table n g) i y ≡ true
        → binder (table n f) i x ≡ binder (table n g) i y
        → place x (bound (f (binder (table n f) i x))) ≡ place y (bound (g (binder (table n g) i y)))
        → new_name (table n f) i x ≡ new_name (table n g) i y
    unfolding new_name
    bound_name a c b p =
        pick_yes _ _ _ a ∙ rw (p, b, first_name-same n f g same top (binder (table n g) i y)) (sym (pick_yes _ _ _ c))

    -- and of one that is bound in neither
    free_name : is_bound_at (table n f) i x ≡ false → is_bound_at (table n g) i y ≡ false → x ≡ y
        → new_name (table n f) i x ≡ new_name (table n g) i y
    unfolding new_name
    free_name a c e = pick_no _ _ _ a ∙ e ∙ sym (pick_no _ _ _ c)

    -- none is bound in one alone
    same_name : Is (is_bound_at (table n f) i x) → Is (is_bound_at (table n g) i y) → new_name (table n f) i x ≡ new_name (table n g) i y
    same_name (is_true a) (is_true c) = bound_name a c (cc (v.same_block (simp (a, c)))) (cc (v.same_position (simp (a, c))))
    same_name (is_true a) (is_false c) =
        let b : binder (table n f) i x ≡ binder (table n g) i y = cc (v.same_block (simp (a, c))) in
        clash (ap (λ (k : ℕ). ltb k n) (sym b) ∙ a) c
    same_name (is_false a) (is_true c) =
        let b : binder (table n f) i x ≡ binder (table n g) i y = cc (v.same_block (simp (a, c))) in
        clash (ap (λ (k : ℕ). ltb k n) b ∙ c) a
    same_name (is_false a) (is_false c) = free_name a c (cc (v.same_number (simp (a, c))))

-- What is written of two tables, and the sizes.
record WrittenAlike (t u : Table) : Type 0 where
  form : written_form t ≡ written_form u
  figures : sizes t ≡ sizes u

of_one_size : (n : ℕ) (f g : ℕ → Node) → ((i : ℕ) → n ≤ i → unnamed (f i) ≡ unnamed (g i))
    → Interchangeable (table n f) (table n g) → WrittenAlike (table n f) (table n g)
of_one_size n f g past s = record { form = form_same n f g same top names; figures = sizes_same n f g same top names }
  where
    top : highest_number (table n f) ≡ highest_number (table n g)
    top = cc s.same_highest

    same : (i : ℕ) → unnamed (f i) ≡ unnamed (g i)
    same i = go (look (ltb i n))
      where
        go : Is (ltb i n) → unnamed (f i) ≡ unnamed (g i)
        go (is_true h) = cc (s.alpha_equivalent.same_nodes i (ltb-true i n h))
        go (is_false h) = past i (ltb-false i n h)

    names : (i x y : ℕ) → i < n → f i ≡ variable x → g i ≡ variable y → new_name (table n f) i x ≡ new_name (table n g) i y
    names i x y h e d =
        same_name n f g same top i x y (s.alpha_equivalent.same_variables i x y h e d)
        (look (is_bound_at (table n f) i x)) (look (is_bound_at (table n g) i y))

of_sizes : (n m : ℕ) (f g : ℕ → Node) → n ≡ m → ((i : ℕ) → n ≤ i → unnamed (f i) ≡ unnamed (g i))
    → Interchangeable (table n f) (table m g) → WrittenAlike (table n f) (table m g)
of_sizes n m f g e past =
    subst (λ k. Interchangeable (table n f) (table k g) → WrittenAlike (table n f) (table k g)) e (of_one_size n f g past)

-- equal forms have one truth value and one list of free variables, and the tables have theirs
equal_forms : (ws ls ws' ls' : List ℕ) → verdict ws ls ≡ accepted → verdict ws' ls' ≡ accepted
    → written_form (table_of ws ls) ≡ written_form (table_of ws' ls')
    → SameMeaning (table_of ws ls) (table_of ws' ls')
equal_forms ws ls ws' ls' h h' e =
    let p = prenex ws ls h in
    let p' = prenex ws' ls' h' in
    let nodes = ap (λ (form : FormBuffers). form.nodes) e in
    let prefix = ap (λ (form : FormBuffers). form.prefix) e in
    let variables = ap (λ (form : FormBuffers). form.variables) e in
    record {
      same_truth = λ v. sym (p.same_truth v) ∙ rw (nodes, prefix, variables) (p'.same_truth v);
      same_free =
          sym (same_list (table_of ws ls) (accepted_holds ws ls h).proper.tree _ _ _ p)
          ∙ rw (nodes, prefix, variables) (same_list (table_of ws' ls') (accepted_holds ws' ls' h').proper.tree _ _ _ p');
    }

pub equal_files : EqualFiles
equal_files text text' before before' o o' r z r' z' e f g s s' v =
    let a = (was_read text before o r z).table in
    let b = (was_read text' before' o' r' z').table in
    sym (a.truth_kept f s v) ∙ (equal_forms _ _ _ _ a.accepts b.accepts e).same_truth v ∙ b.truth_kept g s' v

-- what lifting an accepted table answers
answered : (ws ls : List ℕ) → verdict ws ls ≡ accepted → (before : FormBuffers)
    → (lifted ws ls before).answer ≡ pick (too_short (table_of ws ls) before) (refused (refusal 9 0) no_sizes) (done (sizes (table_of ws ls)))
unfolding lifted accepted
answered ws ls h before =
    ap (λ (o : Outcome Sizes FormBuffers). o.answer) (call_next no_sizes before _ (verdict ws ls) (ap (λ v. v.number) h))
    ∙ go (look (too_short (table_of ws ls) before))
  where
    go : Is (too_short (table_of ws ls) before)
        → (unless_short (too_short (table_of ws ls) before) no_sizes before
        (record { answer = done (sizes (table_of ws ls)); buffers = written (table_of ws ls) before })).answer
        ≡ pick (too_short (table_of ws ls) before) (refused (refusal 9 0) no_sizes) (done (sizes (table_of ws ls)))
    go (is_true s) = ap (λ (o : Outcome Sizes FormBuffers). o.answer) (call_short no_sizes before _ _ s) ∙ sym (pick_yes _ _ _ s)
    go (is_false s) = ap (λ (o : Outcome Sizes FormBuffers). o.answer) (call_room no_sizes before _ _ s) ∙ sym (pick_no _ _ _ s)

module _ (ws ls ws' ls' : List ℕ) (h : verdict ws ls ≡ accepted) (h' : verdict ws' ls' ≡ accepted) where
  written_alike : Interchangeable (table_of ws ls) (table_of ws' ls') → WrittenAlike (table_of ws ls) (table_of ws' ls')
  unfolding table_of
  written_alike s =
      let a = accepted_holds ws ls h in
      let b = accepted_holds ws' ls' h' in
      let e : node_count ws ≡ node_count ws' = s.alpha_equivalent.same_size in
      of_sizes (node_count ws) (node_count ws') (node_at ws ls) (node_at ws' ls') e
      (λ i k. ap unnamed (node_past ws ls a.whole i k ∙ sym (node_past ws' ls' b.whole i (omega arith)))) s

  module _ (w : WrittenAlike (table_of ws ls) (table_of ws' ls')) where
    -- in buffers of the same lengths both have room, or neither has
    short_alike : (before before' : FormBuffers) → SameLengths before before' → too_short (table_of ws ls) before ≡ too_short (table_of ws' ls') before'
    unfolding too_short
    short_alike before before' s =
        let nodes = ap (λ (form : FormBuffers). length form.nodes) w.form in
        let prefix = ap (λ (form : FormBuffers). length form.prefix) w.form in
        let variables = ap (λ (form : FormBuffers). length form.variables) w.form in
        rw (s.nodes, s.prefix, s.variables, nodes, prefix, variables)

    answers_alike : (before before' : FormBuffers) → SameLengths before before'
        → (lifted ws ls before).answer ≡ (lifted ws' ls' before').answer
    answers_alike before before' s =
        answered ws ls h before ∙ rw (short_alike before before' s, w.figures) (sym (answered ws' ls' h' before'))

    all_alike : LiftedAlike ws ls ws' ls'
    unfolding lifted_text lifted_clauses measured
    all_alike =
        let nodes = ap (λ (form : FormBuffers). form.nodes) w.form in
        let prefix = ap (λ (form : FormBuffers). form.prefix) w.form in
        let variables = ap (λ (form : FormBuffers). form.variables) w.form in
        record {
          same_words = λ before before' z z'.
              lifted_left ws ls before _ refl z ∙ w.form ∙ sym (lifted_left ws' ls' before' _ refl z');
          same_answers = answers_alike;
          same_sizes = rw (h, h', w.figures);
          same_text = rw (nodes, prefix, variables);
          same_clauses = rw (nodes, prefix, variables);
          same_meaning = equal_forms ws ls ws' ls' h h' w.form;
        }

pub lifted_alike : AlphaEquivalentLifts
lifted_alike ws ls ws' ls' h h' s = all_alike ws ls ws' ls' h h' (written_alike ws ls ws' ls' h h' s)
