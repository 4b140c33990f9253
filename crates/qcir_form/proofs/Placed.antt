-- Refusal 11 does not apply to a form's file: gate names rise from above the outer names, inputs are lower, and no outer name stands twice.
-- Assumes nothing.
use mathlib.Core.Path.{◌≡◌, refl, sym, ◌∙◌, ap, ap₂}
use mathlib.Core.Bool.{true, false, not}
use mathlib.Core.List.{List, [], ◌∷◌, ◌++◌, append-nil}
use Prim.Native.Nat.{ℕ, ◌≤◌, ◌<◌}
use native.Mathlib.Omega.{arith}
use lib.Dec.{eqb}
use borrow.Author.Tests.{eqb-true, not-true}
use Rattle.lists.specs.Choice.{pick, pick_yes, pick_no, Is, is_true, is_false, look, clash, absent, and_left, and_right, or_neither_left, or_neither_right, or_neither}
use Rattle.lists.specs.Members.{mem, distinct}
use Rattle.lists.proofs.Members.{mem_nil, mem_head, mem_tail, distinct_append, distinct_tail}
use Rattle.lists.proofs.Passing.{strict_distinct}
use Rattle.formula.specs.Node.{Table}
use Rattle.formula.specs.Words.{table_of}
use Rattle.formula.specs.Form.{Block, binds, blocks_of}
use Rattle.form_check.specs.Accepted.{prefix_names}
use Rattle.form_check.proofs.Flags.{binds_names}
use Rattle.qcir.specs.File.{Name, Gate, gate_name, gate_inputs, prefix_variables, numbers_of, names_of}
use Rattle.qcir.specs.Refusals.{gate_names, outer_names, quantified_names, repeated, repeated_in_gates, later_places, gates_listed, naming_gates, without, early_uses, misplaced}
use Rattle.qcir_form.specs.File.{occurs, free_names, prefix_lines, form_file}
use Rattle.qcir_form.specs.Laws.{FilePlaced}
use Rattle.qcir_form.proofs.Numbers.{prefix_numbers, open_lists}
use Rattle.qcir_form.proofs.PlacedLines.{Usable, outer_name, lower_gate, Rising, no_lines_lem, a_line, rising_range, rising_distinct}
use Rattle.qcir_form.proofs.PlacedForm.{outer_of, first_of, outer_below, form_outer, form_rising}

nothing : {xs ys : List ℕ} → xs ≡ [] → ys ≡ [] → xs ++ ys ≡ []
nothing p q = ap₂ ◌++◌ p q

distinct_head : (x : ℕ) (xs : List ℕ) → distinct (x ∷ xs) ≡ true → mem x xs ≡ false
unfolding distinct
distinct_head x xs d = not-true (mem x xs) (and_left (not (mem x xs)) (distinct xs) d)

-- No number stands twice in names that are distinct, and none before them.
not_repeated : (before : List ℕ) (xs : List Name) → distinct (numbers_of xs) ≡ true
    → ((x : ℕ) → mem x (numbers_of xs) ≡ true → mem x before ≡ false) → repeated before xs ≡ []
unfolding repeated numbers_of mem
not_repeated before [] d new = refl
not_repeated before (x ∷ xs) d new =
    nothing (pick_no _ _ _ (new x.number (mem_head x.number (numbers_of xs))))
    (not_repeated (x.number ∷ before) xs (distinct_tail x.number (numbers_of xs) d)
    (λ y m.
    let head : mem x.number (numbers_of xs) ≡ false = distinct_head x.number (numbers_of xs) d in
    or_neither (eqb y x.number) (mem y before)
    (absent _ (λ q. clash m (ap (λ z. mem z (numbers_of xs)) (eqb-true y x.number q) ∙ head)))
    (new y (mem_tail y x.number (numbers_of xs) m))))

-- Names none of which is listed.
not_later : (x : Name) (ys : List Name) → mem x.number (numbers_of ys) ≡ false → later_places x ys ≡ []
unfolding later_places numbers_of mem
not_later x [] h = refl
not_later x (y ∷ ys) h = nothing (pick_no _ _ _ (or_neither_left _ _ h)) (not_later x ys (or_neither_right (eqb x.number y.number) _ h))

not_listed : (xs ys : List Name) → ((x : ℕ) → mem x (numbers_of xs) ≡ true → mem x (numbers_of ys) ≡ false) → gates_listed xs ys ≡ []
unfolding gates_listed numbers_of mem
not_listed [] ys h = refl
not_listed (x ∷ xs) ys h =
    nothing (not_later x ys (h x.number (mem_head x.number (numbers_of xs))))
    (not_listed xs ys (λ y m. h y (mem_tail y x.number (numbers_of xs) m)))

-- Names none of which is a gate's.
no_gates : (gates before : List ℕ) (xs : List Name) → ((x : ℕ) → mem x (numbers_of xs) ≡ true → mem x gates ≡ false)
    → naming_gates gates (without before xs) ≡ []
unfolding naming_gates without numbers_of mem
no_gates gates before [] h = refl
no_gates gates before (x ∷ xs) h = go (look (mem x.number before)) (no_gates gates before xs (λ y m. h y (mem_tail y x.number (numbers_of xs) m)))
  where
    go : Is (mem x.number before) → naming_gates gates (without before xs) ≡ []
        → naming_gates gates (pick (mem x.number before) (without before xs) (x ∷ without before xs)) ≡ []
    go (is_true b) rest = ap (naming_gates gates) (pick_yes _ _ _ b) ∙ rest
    go (is_false b) rest =
        ap (naming_gates gates) (pick_no _ _ _ b) ∙ nothing (pick_no _ _ _ (h x.number (mem_head x.number (numbers_of xs)))) rest

-- Lines that rise from above the outer names.
module _ (outer : List ℕ) (first : ℕ) (below : (x : ℕ) → mem x outer ≡ true → x < first) where
  usable_lower : (s x : ℕ) → first ≤ s → Usable outer first s x → x < s
  usable_lower s x h (outer_name m) = omega (arith, below x m)
  usable_lower s x h (lower_gate l k) = k

  rising_early : {s e : ℕ} {gs : List Gate} → first ≤ s → Rising outer first s gs e → (before : List ℕ) → early_uses before gs ≡ []
  unfolding early_uses
  rising_early h no_lines_lem before = refl
  rising_early {s} {e} h (a_line {g = g} {gs = gs} n v u rest) before =
      let range : (x : ℕ) → mem x (numbers_of (gate_names (g ∷ gs))) ≡ true → (s ≤ x) × (x < e) = rising_range (a_line n v u rest) in
      nothing
      (no_gates (numbers_of (gate_names (g ∷ gs))) before (names_of (gate_inputs g))
      (λ x m. absent _ (λ k. let l : x < s = usable_lower s x h (u x m) in omega (arith, (range x k).0))))
      (rising_early (omega arith) rest ((gate_name g).number ∷ before))

rising_plain : {outer : List ℕ} {first s e : ℕ} {gs : List Gate} → Rising outer first s gs e
    → (quantified_names gs ≡ []) × (repeated_in_gates gs ≡ [])
unfolding quantified_names repeated_in_gates repeated
rising_plain no_lines_lem = (refl, refl)
rising_plain (a_line {g = g} {gs = gs} n v u rest) =
    let r = rising_plain rest in
    (ap₂ ◌++◌ v r.0, nothing (ap (repeated []) v) r.1)

-- No outer name stands twice.
outer_distinct : (t : Table) (bs : List Block) → distinct (prefix_names bs) ≡ true → distinct (outer_of t bs) ≡ true
outer_distinct t bs d =
    let open_names = open_lists t bs in
    let e : numbers_of (prefix_variables (prefix_lines bs)) ≡ prefix_names bs = prefix_numbers bs in
    distinct_append (free_names t bs) (numbers_of (prefix_variables (prefix_lines bs)))
    (strict_distinct (free_names t bs) open_names.ascending)
    (ap distinct e ∙ d)
    (λ x m k. clash (sym (binds_names bs x) ∙ ap (mem x) (sym e) ∙ k)
    (not-true (binds bs x) (and_right (occurs t x) _ (sym (open_names.members x) ∙ m))))

pub file_placed : FilePlaced
unfolding misplaced
file_placed nodes most ns ps xs form =
    let t = table_of ns [] in
    let bs = blocks_of ps xs in
    let file = form_file ns ps xs in
    let rising = form_rising nodes most ns ps xs form in
    let outer : numbers_of (outer_names file) ≡ outer_of t bs = form_outer nodes most ns ps xs form in
    let plain = rising_plain rising in
    nothing (not_repeated [] (gate_names file.gates) (rising_distinct rising) (λ x m. mem_nil x))
    (nothing
    (not_listed (gate_names file.gates) (outer_names file ++ quantified_names file.gates)
    (λ x m. absent _ (λ k.
    let listed : mem x (outer_of t bs) ≡ true =
    ap (mem x) (sym outer) ∙ ap (λ l. mem x (numbers_of l)) (sym (append-nil (outer_names file)) ∙ ap (λ l. outer_names file ++ l) (sym plain.0)) ∙ k in
    omega (arith, outer_below t bs x listed, (rising_range rising x m).0))))
    (nothing (rising_early (outer_of t bs) (first_of t bs) (outer_below t bs) (omega arith) rising [])
    (nothing
    (not_repeated [] (outer_names file) (ap distinct outer ∙ outer_distinct t bs form.apart) (λ x m. mem_nil x))
    plain.1)))
