-- How often each number is used in a form's file: once if it is a gate's, and once for each written variable node where it stands.
-- Assumes nothing.
use mathlib.Core.Path.{◌≡◌, refl, sym, ◌∙◌, ap}
use mathlib.Core.Bool.{Bool, true, false, not, ◌&&◌}
use mathlib.Core.List.{List, [], ◌∷◌, ◌++◌, append-nil, append_assoc}
use Prim.Native.Nat.{ℕ, zero, suc, ◌+◌, ◌-◌, ◌≤◌, ◌<◌}
use native.Mathlib.Omega.{arith}
use lib.Dec.{eqb}
use borrow.Author.Tests.{eq-eqb, lt-ltb}
use Rattle.lists.specs.Choice.{pick, pick_yes, pick_no, Is, is_true, is_false, look, absent, and_left, and_both, and_off_left, and_off_right}
use Rattle.lists.specs.Search.{lowest, some_below}
use Rattle.lists.specs.Members.{mem, times}
use Rattle.lists.specs.Parts.{up_to, sum}
use Rattle.lists.proofs.Members.{mem_head, mem_tail, times_distinct, times_append}
use Rattle.lists.proofs.Search.{lowest_least}
use Rattle.lists.proofs.Parts.{sum_cong, sum_add, sum_zero}
use Rattle.formula.specs.Node.{Table, is_block}
use Rattle.formula.specs.Words.{node_count, table_of}
use Rattle.formula.specs.Form.{blocks_of}
use Rattle.formula.specs.FreeVariables.{stands_at}
use Rattle.formula.specs.Tree.{Tree}
use Rattle.acceptance.specs.Limits.{matrix_within}
use Rattle.form_check.specs.Accepted.{AcceptedFormWithin}
use Rattle.qcir.specs.File.{Gate, gate_name, gate_inputs, numbers_of, names_of}
use Rattle.qcir.specs.Refusals.{keep, gate_names, input_numbers, used_numbers, not_used_once}
use Rattle.qcir_form.specs.File.{used_operands, written, has_gate, node_literal, is_gate, gate_number, node_literal_of, gates_of, occurs, matrix_file, form_file}
use Rattle.qcir_form.specs.Laws.{FileUsedOnce}
use Rattle.qcir_form.proofs.Written.{written_root, written_down}
use Rattle.qcir_form.proofs.Numbers.{occurs_known}
use Rattle.qcir_form.proofs.PlacedNodes.{number_for, Writing, as_gate, as_name, as_operand, writing}
use Rattle.qcir_form.proofs.PlacedLines.{rising_range, rising_distinct, lines_of, number_step}
use Rattle.qcir_form.proofs.PlacedForm.{first_of, outer_below, form_tree, form_plain, form_rising}
use Rattle.qcir_form.proofs.UsedOnceCount.{tally, tally_images, uses_all}

-- What gate lines use and define, part by part.
inputs_append : (gs hs : List Gate) → input_numbers (gs ++ hs) ≡ input_numbers gs ++ input_numbers hs
unfolding input_numbers
inputs_append [] hs = refl
inputs_append (g ∷ gs) hs =
    ap (λ l. numbers_of (names_of (gate_inputs g)) ++ l) (inputs_append gs hs)
    ∙ sym (append_assoc (numbers_of (names_of (gate_inputs g))) (input_numbers gs) (input_numbers hs))

pub inputs_parts : (x : ℕ) (g : ℕ → List Gate) (n : ℕ) → times x (input_numbers (up_to g n)) ≡ sum (λ i. times x (input_numbers (g i))) n
unfolding up_to sum input_numbers times
inputs_parts x g zero = refl
inputs_parts x g (suc n) =
    ap (times x) (inputs_append (up_to g n) (g n)) ∙ times_append x (input_numbers (up_to g n)) (input_numbers (g n))
    ∙ ap (λ (k : ℕ). k + times x (input_numbers (g n))) (inputs_parts x g n)

names_append : (gs hs : List Gate) → numbers_of (gate_names (gs ++ hs)) ≡ numbers_of (gate_names gs) ++ numbers_of (gate_names hs)
unfolding gate_names numbers_of
names_append [] hs = refl
names_append (g ∷ gs) hs = ap (λ l. (gate_name g).number ∷ l) (names_append gs hs)

names_parts : (x : ℕ) (g : ℕ → List Gate) (n : ℕ)
    → times x (numbers_of (gate_names (up_to g n))) ≡ sum (λ i. times x (numbers_of (gate_names (g i)))) n
unfolding up_to sum gate_names numbers_of times
names_parts x g zero = refl
names_parts x g (suc n) =
    ap (times x) (names_append (up_to g n) (g n)) ∙ times_append x (numbers_of (gate_names (up_to g n))) (numbers_of (gate_names (g n)))
    ∙ ap (λ (k : ℕ). k + times x (numbers_of (gate_names (g n)))) (names_parts x g n)

module _ (t : Table) (tree : Tree t) (plain : (i : ℕ) → i < t.size → is_block (t.node i) ≡ false) (first x : ℕ) where
  abbrev number : ℕ → ℕ
  number = number_for (node_literal_of t first)

  -- x stands for the written node
  abbrev stands_for : ℕ → Bool
  stands_for a = written t a && eqb x (number a)

  stands_written : (a : ℕ) → written t a ≡ true → stands_for a ≡ eqb x (number a)
  stands_written a w = rw w

  -- Node j: what its line uses, and whether x stands for it, against the nodes in use that x stands for, its line's number, and whether x
  -- is its name.
  abbrev Balanced : ℕ → Type 0
  Balanced j =
      times x (input_numbers (lines_of t first j)) + pick (stands_for j) 1 0
      ≡ pick (written t j) (tally stands_for (used_operands (t.node j))) 0
      + (times x (numbers_of (gate_names (lines_of t first j))) + pick (written t j && stands_at x (t.node j)) 1 0)

  -- where it has no line
  balanced_lineless : (j : ℕ) → is_gate t j ≡ false
      → pick (stands_for j) 1 0 ≡ pick (written t j) (tally stands_for (used_operands (t.node j))) 0 + pick (written t j && stands_at x (t.node j)) 1 0
      → Balanced j
  unfolding input_numbers gate_names numbers_of times
  balanced_lineless j gated e =
      let lines : lines_of t first j ≡ [] = pick_no _ _ _ gated in
      let inputs : times x (input_numbers (lines_of t first j)) ≡ 0 = ap (λ l. times x (input_numbers l)) lines in
      let names : times x (numbers_of (gate_names (lines_of t first j))) ≡ 0 = ap (λ l. times x (numbers_of (gate_names l))) lines in
      omega arith

  balanced_written : (j : ℕ) → j < t.size → written t j ≡ true → Writing (node_literal_of t first) (gate_number t first j) (t.node j) → Balanced j
  unfolding is_gate has_gate node_literal stands_at used_operands input_numbers gate_names numbers_of times tally
  balanced_written j h w (as_gate gated n stands line e is) =
      let used : List ℕ = used_operands (t.node j) in
      let lines : lines_of t first j ≡ line ∷ [] = pick_yes _ _ _ (and_both (written t j) _ w gated) ∙ e in
      let inputs : times x (input_numbers (lines_of t first j)) ≡ tally stands_for used =
      ap (λ l. times x (input_numbers l)) lines
      ∙ ap (times x) (append-nil (numbers_of (names_of (gate_inputs line))) ∙ is.inputs_are)
      ∙ tally_images number stands_for x used (λ a m. stands_written a (written_down t tree j a h w m)) in
      let names : times x (numbers_of (gate_names (lines_of t first j))) ≡ pick (eqb x (gate_name line).number) 1 0 + 0 =
      ap (λ l. times x (numbers_of (gate_names l))) lines in
      let here : pick {A = ℕ} (stands_for j) 1 0 ≡ pick (eqb x (gate_name line).number) 1 0 =
      ap (λ b. pick b 1 0) (stands_written j w ∙ ap (eqb x) (number_step t tree first j h ∙ n ∙ sym is.name_is)) in
      let below : pick (written t j) (tally stands_for used) 0 ≡ tally stands_for used = pick_yes {A = ℕ} _ _ _ w in
      let not_name : pick {A = ℕ} (written t j && stands_at x (t.node j)) 1 0 ≡ 0 = pick_no {A = ℕ} _ _ _ (and_off_right (written t j) _ (stands x)) in
      omega arith
  balanced_written j h w (as_name y e) =
      let gated : has_gate (t.node j) ≡ false = ap has_gate e in
      balanced_lineless j (and_off_right (written t j) _ gated)
      (let here : pick {A = ℕ} (stands_for j) 1 0 ≡ pick (written t j && stands_at x (t.node j)) 1 0 =
      ap (λ b. pick (written t j && b) 1 0)
      (ap (eqb x) (number_step t tree first j h ∙ ap (λ nd. (node_literal (node_literal_of t first) (gate_number t first j) nd).name.number) e)
      ∙ sym (ap (stands_at x) e)) in
      let below : pick (written t j) (tally stands_for (used_operands (t.node j))) 0 ≡ 0 =
      pick_yes {A = ℕ} _ _ _ w ∙ ap (λ nd. tally stands_for (used_operands nd)) e in
      omega arith)
  balanced_written j h w (as_operand gated stands a used n) =
      balanced_lineless j (and_off_right (written t j) _ gated)
      (let m : mem a (used_operands (t.node j)) ≡ true = ap (mem a) used ∙ mem_head a [] in
      let here : pick {A = ℕ} (stands_for j) 1 0 ≡ pick (stands_for a) 1 0 =
      ap (λ b. pick b 1 0) (stands_written j w ∙ ap (eqb x) (number_step t tree first j h ∙ n) ∙ sym (stands_written a (written_down t tree j a h w m))) in
      let below : pick (written t j) (tally stands_for (used_operands (t.node j))) 0 ≡ pick (stands_for a) 1 0 + 0 =
      pick_yes {A = ℕ} _ _ _ w ∙ ap (tally stands_for) used in
      let not_name : pick {A = ℕ} (written t j && stands_at x (t.node j)) 1 0 ≡ 0 = pick_no {A = ℕ} _ _ _ (and_off_right (written t j) _ (stands x)) in
      omega arith)

  balanced : (j : ℕ) → j < t.size → Balanced j
  unfolding is_gate
  balanced j h = go (look (written t j))
    where
      go : Is (written t j) → Balanced j
      go (is_true w) = balanced_written j h w (writing (node_literal_of t first) (gate_number t first j) (t.node j) (plain j h))
      go (is_false w) =
          balanced_lineless j (and_off_left (written t j) _ w)
          (let here : pick {A = ℕ} (stands_for j) 1 0 ≡ 0 = pick_no {A = ℕ} _ _ _ (and_off_left (written t j) _ w) in
          let below : pick (written t j) (tally stands_for (used_operands (t.node j))) 0 ≡ 0 = pick_no {A = ℕ} _ _ _ w in
          let not_name : pick {A = ℕ} (written t j && stands_at x (t.node j)) 1 0 ≡ 0 = pick_no {A = ℕ} _ _ _ (and_off_left (written t j) _ w) in
          omega arith)

  -- How often the output and the gate lines use x.
  pub used_count : times x (number (t.size - 1) ∷ input_numbers (gates_of t first))
      ≡ times x (numbers_of (gate_names (gates_of t first))) + sum (λ j. pick (written t j && stands_at x (t.node j)) 1 0) t.size
  unfolding gates_of times
  used_count =
      let n : ℕ = t.size in
      let lines : ℕ → List Gate = lines_of t first in
      let inputs : ℕ → ℕ = λ j. times x (input_numbers (lines j)) in
      let here : ℕ → ℕ = λ j. pick (stands_for j) 1 0 in
      let below : ℕ → ℕ = λ j. pick (written t j) (tally stands_for (used_operands (t.node j))) 0 in
      let names : ℕ → ℕ = λ j. times x (numbers_of (gate_names (lines j))) in
      let name : ℕ → ℕ = λ j. pick (written t j && stands_at x (t.node j)) 1 0 in
      let each : sum (λ j. inputs j + here j) n ≡ sum (λ j. below j + (names j + name j)) n = sum_cong _ _ n balanced in
      let uses : sum below n + pick (stands_for (n - 1)) 1 0 ≡ sum here n = uses_all t tree stands_for (λ a h e. and_left (written t a) _ e) in
      let root : pick {A = ℕ} (stands_for (n - 1)) 1 0 ≡ pick (eqb x (number (n - 1))) 1 0 =
      ap (λ b. pick b 1 0) (stands_written (n - 1) (written_root t tree.nonempty)) in
      omega (arith, sum_add inputs here n, sum_add below (λ j. names j + name j) n, sum_add names name n, inputs_parts x lines n, names_parts x lines n)

-- Nothing is kept where nothing passes.
pub nothing_kept : (p : ℕ → Bool) (xs : List ℕ) → ((x : ℕ) → mem x xs ≡ true → p x ≡ false) → keep p xs ≡ []
unfolding keep
nothing_kept p [] h = refl
nothing_kept p (x ∷ xs) h = pick_no _ _ _ (h x (mem_head x xs)) ∙ nothing_kept p xs (λ y m. h y (mem_tail y x xs m))

-- What stands at a written node occurs.
pub stands_occurs : (t : Table) (x j : ℕ) → j < t.size → (written t j && stands_at x (t.node j)) ≡ true → occurs t x ≡ true
unfolding occurs some_below
stands_occurs t x j h e =
    let test : ℕ → Bool = λ i. written t i && stands_at x (t.node i) in
    lt-ltb (lowest test t.size) t.size (omega (arith, lowest_least test t.size j h e))

-- How often a form's file uses x.
module _ (nodes most : ℕ) (ns ps xs : List ℕ) (form : AcceptedFormWithin (matrix_within nodes most) ns ps xs) where
  pub form_used : (x : ℕ) → times x (used_numbers (form_file ns ps xs))
      ≡ times x (numbers_of (gate_names (form_file ns ps xs).gates))
      + sum (λ j. pick (written (table_of ns []) j && stands_at x ((table_of ns []).node j)) 1 0) (node_count ns)
  unfolding form_file matrix_file used_numbers table_of
  form_used x =
      used_count (table_of ns []) (form_tree nodes most ns ps xs form) (form_plain nodes most ns ps xs form)
      (first_of (table_of ns []) (blocks_of ps xs)) x

  -- what is at a written variable node is no gate's number
  below_gates : (x : ℕ) → first_of (table_of ns []) (blocks_of ps xs) ≤ x
      → (j : ℕ) → j < node_count ns → (written (table_of ns []) j && stands_at x ((table_of ns []).node j)) ≡ false
  unfolding table_of
  below_gates x h j l =
      let t = table_of ns [] in
      absent _ (λ e. omega (arith, outer_below t (blocks_of ps xs) x (occurs_known t (blocks_of ps xs) x (stands_occurs t x j l e))))

pub file_used_once : FileUsedOnce
unfolding not_used_once
file_used_once nodes most ns ps xs form =
    let file = form_file ns ps xs in
    let rising = form_rising nodes most ns ps xs form in
    nothing_kept (λ x. not (eqb (times x (used_numbers file)) 1)) (numbers_of (gate_names file.gates))
    (λ x m.
    let once : times x (numbers_of (gate_names file.gates)) ≡ 1 = times_distinct x _ (rising_distinct rising) m in
    let none : sum (λ j. pick (written (table_of ns []) j && stands_at x ((table_of ns []).node j)) 1 0) (node_count ns) ≡ 0 =
    sum_zero _ (node_count ns) (λ j l. pick_no {A = ℕ} _ _ _ (below_gates nodes most ns ps xs form x (rising_range rising x m).0 j l)) in
    let used : times x (used_numbers file) ≡ 1 = omega (arith, form_used nodes most ns ps xs form x) in
    ap not (eq-eqb (times x (used_numbers file)) 1 used))
