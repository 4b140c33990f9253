-- The free line of a form's file lists the names that its output or gate lines use, but those of gates and those that a block binds.
-- Assumes nothing.
use mathlib.Core.Path.{◌≡◌, refl, sym, ◌∙◌, ap, subst}
use mathlib.Core.Bool.{Bool, true, false, not, ◌&&◌}
use mathlib.Core.List.{List, []}
use Prim.Native.Nat.{ℕ, ◌<◌}
use native.Mathlib.Omega.{arith}
use borrow.Author.Tests.{eq-eqb, not-true}
use Rattle.lists.specs.Choice.{pick, pick_yes, Is, is_true, is_false, look, absent, same_test, and_left, and_right, and_both}
use Rattle.lists.specs.Members.{mem, ListOf}
use Rattle.lists.specs.Parts.{sum}
use Rattle.lists.proofs.Members.{mem_left, times_zero, times_positive}
use Rattle.lists.proofs.Parts.{term_le, sum_positive}
use Rattle.formula.specs.Node.{Table}
use Rattle.formula.specs.Words.{node_count, table_of}
use Rattle.formula.specs.Form.{Block, binds, blocks_of}
use Rattle.formula.specs.FreeVariables.{stands_at}
use Rattle.acceptance.specs.Limits.{matrix_within}
use Rattle.form_check.specs.Accepted.{AcceptedFormWithin}
use Rattle.qcir.specs.File.{numbers_of}
use Rattle.qcir.specs.Refusals.{gate_names, used_numbers}
use Rattle.qcir_form.specs.File.{written, occurs, free_names, matrix_file, form_file}
use Rattle.qcir_form.specs.Laws.{FreeOccur}
use Rattle.qcir_form.proofs.Numbers.{numbers_named, occurs_from, open_lists}
use Rattle.qcir_form.proofs.PlacedLines.{rising_range}
use Rattle.qcir_form.proofs.PlacedForm.{outer_below, form_rising}
use Rattle.qcir_form.proofs.UsedOnce.{stands_occurs, form_used}

picked : (b : Bool) → 0 < pick b 1 0 → b ≡ true
unfolding pick
picked true h = refl
picked false h = absurd (omega arith)

module _ (nodes most : ℕ) (ns ps xs : List ℕ) (form : AcceptedFormWithin (matrix_within nodes most) ns ps xs) (x : ℕ) where
  abbrev table : Table
  table = table_of ns []

  abbrev blocks : List Block
  blocks = blocks_of ps xs

  abbrev used : Bool
  used = mem x (used_numbers (form_file ns ps xs))

  abbrev gate : Bool
  gate = mem x (numbers_of (gate_names (form_file ns ps xs).gates))

  -- x is the name of the written node j
  abbrev here : ℕ → Bool
  here j = written table j && stands_at x (table.node j)

  open_parts : mem x (free_names table blocks) ≡ true → (occurs table x ≡ true) × (binds blocks x ≡ false)
  open_parts m =
      let p : (occurs table x && not (binds blocks x)) ≡ true = sym ((open_lists table blocks).members x) ∙ m in
      (and_left (occurs table x) _ p, not-true (binds blocks x) (and_right (occurs table x) _ p))

  open_used : mem x (free_names table blocks) ≡ true → used ≡ true
  unfolding table_of stands_at
  open_used m = go (look used)
    where
      go : Is used → used ≡ true
      go (is_true e) = e
      go (is_false e) =
          let o = occurs_from table x (open_parts m).0 in
          let j : ℕ = o.0 in
          let at : here j ≡ true = and_both (written table j) _ o.2 (ap (stands_at x) o.3 ∙ eq-eqb x x refl) in
          let term = term_le (λ k. pick (here k) 1 0) (node_count ns) j o.1 in
          absurd (omega (arith, form_used nodes most ns ps xs form x, times_zero x _ e, term, pick_yes {A = ℕ} (here j) 1 0 at))

  open_no_gate : mem x (free_names table blocks) ≡ true → gate ≡ false
  open_no_gate m =
      let below = outer_below table blocks x (mem_left x (free_names table blocks) _ m) in
      absent gate (λ g. omega (arith, (rising_range (form_rising nodes most ns ps xs form) x g).0))

  used_open : used ≡ true → gate ≡ false → binds blocks x ≡ false → mem x (free_names table blocks) ≡ true
  unfolding table_of
  used_open u g b =
      let count = form_used nodes most ns ps xs form x in
      let some : 0 < sum (λ j. pick (here j) 1 0) (node_count ns) =
      omega (arith, times_positive x (used_numbers (form_file ns ps xs)) u, times_zero x (numbers_of (gate_names (form_file ns ps xs).gates)) g) in
      let r = sum_positive (λ j. pick (here j) 1 0) (node_count ns) some in
      let j : ℕ = r.0 in
      let at : here j ≡ true = picked (here j) r.2 in
      (open_lists table blocks).members x ∙ and_both (occurs table x) _ (stands_occurs table x j r.1 at) (ap not b)

  open_is : mem x (free_names table blocks) ≡ (used && not gate && not (binds blocks x))
  open_is =
      same_test _ _
      (λ m. and_both (used && not gate) _ (and_both used _ (open_used m) (ap not (open_no_gate m))) (ap not (open_parts m).1))
      (λ e.
      let both = and_left (used && not gate) (not (binds blocks x)) e in
      used_open (and_left used (not gate) both) (not-true gate (and_right used (not gate) both))
      (not-true (binds blocks x) (and_right (used && not gate) (not (binds blocks x)) e)))

pub free_occur : FreeOccur
unfolding form_file matrix_file
free_occur nodes most ns ps xs form =
    subst (ListOf _) (sym (numbers_named (free_names (table_of ns []) (blocks_of ps xs))))
    record { members = open_is nodes most ns ps xs form; ascending = (open_lists (table_of ns []) (blocks_of ps xs)).ascending }
