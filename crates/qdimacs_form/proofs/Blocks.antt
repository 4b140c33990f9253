-- The blocks of a form's problem alternate, none is empty, and the last is exists. And which variables they bind, in their order.
-- Assumes nothing.
use mathlib.Core.Path.{◌≡◌, refl, sym, ◌∙◌, ap}
use mathlib.Core.Bool.{Bool, true, false, not, ◌&&◌}
use mathlib.Core.List.{List, [], ◌∷◌, ◌++◌, flat_map, append_assoc, append-nil}
use Prim.Native.Nat.{ℕ, suc, ◌<◌}
use native.Mathlib.Omega.{arith}
use lib.Dec.{eqb}
use lib.ListN.{length, length-append}
use borrow.Author.Tests.{eqb-true, eqb-false, eq-eqb, ne_eqb, not-true}
use Rattle.lists.specs.Choice.{pick_no, clash, and_left, and_right, and_both}
use Rattle.lists.specs.Parts.{numbers}
use Rattle.lists.proofs.Parts.{length_numbers, flat_map_append}
use Rattle.formula.specs.Node.{exists, Table}
use Rattle.formula.specs.Words.{table_of}
use Rattle.formula.specs.Form.{Block, kind_of, blocks_of}
use Rattle.formula.specs.FreeVariables.{form_free_variables}
use Rattle.form_check.specs.Accepted.{prefix_names}
use Rattle.qdimacs.specs.Problem.{every}
use Rattle.qdimacs_form.specs.Clauses.{gates_below, first_gate, exists_block, closed_blocks, filled_blocks, same_kind, joined_to, joined_blocks, matrix_problem, form_problem}
use Rattle.qdimacs_form.specs.Laws.{alternate, last_exists, ProblemBlocks}
use Rattle.qdimacs_form.proofs.Gates.{gate_root}
use Rattle.qdimacs_form.proofs.Sound.{pick_cases}

-- Neighbours of one kind are joined.

to_alternate : (b : Block) (bs : List Block) → alternate bs ≡ true → alternate (joined_to b bs) ≡ true
unfolding alternate joined_to same_kind
to_alternate b [] h = refl
to_alternate b (c ∷ []) h =
    pick_cases (λ ds. alternate ds ≡ true) (same_kind b c) _ (b ∷ c ∷ []) (λ e. refl) (λ e. and_both _ true (ap not e) refl)
to_alternate b (c ∷ d ∷ ds) h =
    pick_cases (λ es. alternate es ≡ true) (same_kind b c) _ (b ∷ c ∷ d ∷ ds)
    (λ e. ap (λ k. not (eqb k (kind_of d.quantifier)) && alternate (d ∷ ds)) (eqb-true _ _ e) ∙ h)
    (λ e. and_both _ _ (ap not e) h)

joined_alternate : (bs : List Block) → alternate (joined_blocks bs) ≡ true
unfolding alternate joined_blocks
joined_alternate [] = refl
joined_alternate (b ∷ bs) = to_alternate b (joined_blocks bs) (joined_alternate bs)

-- Empty blocks go.

abbrev pub is_filled : Block → Bool
is_filled b = not (eqb (length b.variables) 0)

filled_blocks_lem : (bs : List Block) → every is_filled (filled_blocks bs) ≡ true
unfolding every filled_blocks
filled_blocks_lem [] = refl
filled_blocks_lem (b ∷ bs) =
    pick_cases (λ cs. every is_filled cs ≡ true) (eqb (length b.variables) 0) (filled_blocks bs) (b ∷ filled_blocks bs)
    (λ e. filled_blocks_lem bs) (λ e. and_both _ _ (ap not e) (filled_blocks_lem bs))

longer : (xs ys : List ℕ) → not (eqb (length xs) 0) ≡ true → not (eqb (length (xs ++ ys)) 0) ≡ true
longer xs ys h =
    let n : length xs ≡ 0 → ⊥ = eqb-false _ _ (not-true _ h) in
    ap not (ne_eqb _ 0 (λ (e : length (xs ++ ys) ≡ 0). omega (arith, length-append xs ys)))

to_filled : (b : Block) (bs : List Block) → is_filled b ≡ true → every is_filled bs ≡ true → every is_filled (joined_to b bs) ≡ true
unfolding every joined_to
to_filled b [] f h = and_both _ true f refl
to_filled b (c ∷ cs) f h =
    pick_cases (λ ds. every is_filled ds ≡ true) (same_kind b c) _ (b ∷ c ∷ cs)
    (λ e. and_both _ _ (longer b.variables c.variables f) (and_right (is_filled c) _ h)) (λ e. and_both _ _ f h)

joined_filled : (bs : List Block) → every is_filled bs ≡ true → every is_filled (joined_blocks bs) ≡ true
unfolding every joined_blocks
joined_filled [] h = refl
joined_filled (b ∷ bs) h = to_filled b (joined_blocks bs) (and_left (is_filled b) _ h) (joined_filled bs (and_right (is_filled b) _ h))

-- The last block stays, and its kind.

last_cons : (b : Block) (bs : List Block) → last_exists bs ≡ true → last_exists (b ∷ bs) ≡ true
unfolding last_exists
last_cons b [] h = clash h refl
last_cons b (c ∷ cs) h = h

filled_last : (bs : List Block) (xs : List ℕ) → eqb (length xs) 0 ≡ false → last_exists (filled_blocks (bs ++ (exists_block xs ∷ []))) ≡ true
unfolding last_exists filled_blocks exists_block
filled_last [] xs n =
    ap last_exists (pick_no (eqb (length xs) 0) [] (exists_block xs ∷ []) n) ∙ eq-eqb (kind_of exists) _ refl
filled_last (b ∷ bs) xs n =
    let rest = filled_last bs xs n in
    pick_cases (λ cs. last_exists cs ≡ true) (eqb (length b.variables) 0) _ (b ∷ filled_blocks (bs ++ (exists_block xs ∷ []))) (λ e. rest)
    (λ e. last_cons b (filled_blocks (bs ++ (exists_block xs ∷ []))) rest)

to_last : (b : Block) (bs : List Block) → last_exists bs ≡ true → last_exists (joined_to b bs) ≡ true
unfolding last_exists joined_to same_kind
to_last b [] h = clash h refl
to_last b (c ∷ []) h =
    pick_cases (λ ds. last_exists ds ≡ true) (same_kind b c) _ (b ∷ c ∷ []) (λ e. ap (λ k. eqb k (kind_of exists)) (eqb-true _ _ e) ∙ h) (λ e. h)
to_last b (c ∷ d ∷ ds) h = pick_cases (λ es. last_exists es ≡ true) (same_kind b c) _ (b ∷ c ∷ d ∷ ds) (λ e. h) (λ e. h)

joined_last : (bs : List Block) → last_exists bs ≡ true → last_exists (joined_blocks bs) ≡ true
unfolding last_exists joined_blocks joined_to
joined_last [] h = h
joined_last (b ∷ []) h = h
joined_last (b ∷ c ∷ cs) h = to_last b (joined_blocks (c ∷ cs)) (joined_last (c ∷ cs) h)

-- The root has a gate, so the gates' block is not empty.
some_gate : (t : Table) (first : ℕ) → 0 < t.size → eqb (length (numbers first (gates_below t t.size))) 0 ≡ false
some_gate t first h =
    let gates : ℕ = gates_below t t.size in
    ne_eqb _ 0 (λ (e : length (numbers first gates) ≡ 0). omega (arith, length_numbers first gates, gate_root t 0 h))

pub problem_blocks : ProblemBlocks
unfolding form_problem matrix_problem closed_blocks
problem_blocks nodes most ns ps xs form =
    let some = some_gate (table_of ns []) (first_gate (table_of ns []) (blocks_of ps xs)) form.matrix.proper.tree.nonempty in
    record {
      alternating = joined_alternate _;
      filled = joined_filled _ (filled_blocks_lem _);
      last = joined_last _ (filled_last (exists_block (form_free_variables ns ps xs) ∷ blocks_of ps xs) _ some);
    }

-- The variables, whatever blocks go or are joined.

-- a block that goes has none
no_variables : (xs : List ℕ) → eqb (length xs) 0 ≡ true → xs ≡ []
no_variables [] e = refl
no_variables (x ∷ xs) e = let z : suc (length xs) ≡ 0 = eqb-true _ _ e in absurd (omega arith)

pub filled_names : (bs : List Block) → prefix_names (filled_blocks bs) ≡ prefix_names bs
unfolding prefix_names flat_map filled_blocks
filled_names [] = refl
filled_names (b ∷ bs) =
    pick_cases (λ cs. prefix_names cs ≡ b.variables ++ prefix_names bs) (eqb (length b.variables) 0) (filled_blocks bs) (b ∷ filled_blocks bs)
    (λ e. filled_names bs ∙ ap (λ xs. xs ++ prefix_names bs) (sym (no_variables b.variables e)))
    (λ e. ap (λ xs. b.variables ++ xs) (filled_names bs))

to_names : (b : Block) (bs : List Block) → prefix_names (joined_to b bs) ≡ b.variables ++ prefix_names bs
unfolding prefix_names flat_map joined_to
to_names b [] = refl
to_names b (c ∷ cs) =
    pick_cases (λ ds. prefix_names ds ≡ b.variables ++ (c.variables ++ prefix_names cs)) (same_kind b c) _ (b ∷ c ∷ cs)
    (λ e. append_assoc b.variables c.variables (prefix_names cs)) (λ e. refl)

pub joined_names : (bs : List Block) → prefix_names (joined_blocks bs) ≡ prefix_names bs
unfolding prefix_names flat_map joined_blocks
joined_names [] = refl
joined_names (b ∷ bs) = to_names b (joined_blocks bs) ∙ ap (λ xs. b.variables ++ xs) (joined_names bs)

closed_names : (open_names : List ℕ) (bs : List Block) (gates : List ℕ)
    → prefix_names (closed_blocks open_names bs gates) ≡ open_names ++ (prefix_names bs ++ gates)
unfolding prefix_names flat_map closed_blocks exists_block
closed_names open_names bs gates =
    ap (λ xs. open_names ++ xs)
    (flat_map_append (λ (b : Block). b.variables) bs (exists_block gates ∷ []) ∙ ap (λ xs. prefix_names bs ++ xs) (append-nil gates))

-- those of a problem: the open names, the prefix's and the gates'
pub problem_names : (ns ps xs : List ℕ)
    → prefix_names (form_problem ns ps xs).blocks
    ≡ form_free_variables ns ps xs
    ++ (prefix_names (blocks_of ps xs) ++ numbers (first_gate (table_of ns []) (blocks_of ps xs)) (gates_below (table_of ns []) (table_of ns []).size))
unfolding form_problem matrix_problem
problem_names ns ps xs = joined_names _ ∙ filled_names _ ∙ closed_names _ _ _
