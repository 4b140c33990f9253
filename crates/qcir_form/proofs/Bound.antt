-- Refusal 12 does not apply to a form's file: every variable in it is an outer name.
-- Assumes nothing.
use mathlib.Core.Path.{◌≡◌, refl, sym, ◌∙◌, ap}
use mathlib.Core.Bool.{Bool, true, false, not, ◌||◌}
use mathlib.Core.List.{List, [], ◌∷◌}
use Prim.Native.Nat.{ℕ, suc}
use native.Mathlib.Omega.{arith}
use lib.Dec.{eqb}
use borrow.Author.Tests.{eqb-true, eqb-false}
use Rattle.lists.specs.Choice.{pick, pick_yes, pick_no, Is, is_true, is_false, look, clash, or_cases, or_right}
use Rattle.lists.specs.Members.{mem}
use Rattle.lists.proofs.Members.{mem_one, mem_append, mem_head, mem_tail}
use Rattle.formula.specs.Words.{table_of}
use Rattle.formula.specs.Form.{blocks_of}
use Rattle.qcir.specs.File.{Literal, Gate, gate_name, gate_variables, gate_inputs, numbers_of, names_of}
use Rattle.qcir.specs.Refusals.{keep, outer_names, FreeIn, free_in_inputs, free_in_gates, unbound}
use Rattle.qcir_form.specs.File.{form_file}
use Rattle.qcir_form.specs.Laws.{FileBound}
use Rattle.qcir_form.proofs.UsedOnce.{nothing_kept}
use Rattle.qcir_form.proofs.PlacedLines.{Usable, outer_name, lower_gate, Rising, no_lines_lem, a_line}
use Rattle.qcir_form.proofs.PlacedForm.{outer_of, first_of, form_outer, form_rising, form_output}

-- What is kept stood there.
kept_from : (p : ℕ → Bool) (xs : List ℕ) (y : ℕ) → mem y (keep p xs) ≡ true → mem y xs ≡ true
unfolding keep mem
kept_from p [] y m = m
kept_from p (x ∷ xs) y m = go (look (p x)) (kept_from p xs y)
  where
    go : Is (p x) → (mem y (keep p xs) ≡ true → mem y xs ≡ true) → (eqb y x || mem y xs) ≡ true
    go (is_true e) next =
        or_cases (eqb y x) (mem y (keep p xs)) (ap (mem y) (sym (pick_yes (p x) (x ∷ keep p xs) (keep p xs) e)) ∙ m)
        (λ q. rw q) (λ k. or_right (eqb y x) (mem y xs) (next k))
    go (is_false e) next = or_right (eqb y x) (mem y xs) (next (ap (mem y) (sym (pick_no (p x) (x ∷ keep p xs) (keep p xs) e)) ∙ m))

-- What is free in inputs is free in one of them.
in_inputs : {P : Type 0} (o : FreeIn) (y : ℕ) (ls : List Literal)
    → ((x : ℕ) → mem x (numbers_of (names_of ls)) ≡ true → mem y (o x) ≡ true → P) → mem y (free_in_inputs o ls) ≡ true → P
unfolding free_in_inputs numbers_of names_of mem
in_inputs o y [] f m = clash m refl
in_inputs o y (l ∷ ls) f m =
    let x : ℕ = l.name.number in
    or_cases (mem y (o x)) (mem y (free_in_inputs o ls)) (sym (mem_append y (o x) (free_in_inputs o ls)) ∙ m)
    (λ k. f x (mem_head x (numbers_of (names_of ls))) k)
    (in_inputs o y ls (λ z n. f z (mem_tail z x (numbers_of (names_of ls)) n)))

-- Lines over outer names and lower gates.
module _ (outer : List ℕ) (first : ℕ) where
  -- Only outer names are free in what a line numbered s may use.
  abbrev Known : ℕ → FreeIn → Type 0
  Known s o = (x : ℕ) → Usable outer first s x → (y : ℕ) → mem y (o x) ≡ true → mem y outer ≡ true

  known_first : Known first (λ x. x ∷ [])
  known_first x (outer_name m) y k = ap (λ z. mem z outer) (eqb-true y x (sym (mem_one y x) ∙ k)) ∙ m
  known_first x (lower_gate l h) y k = absurd (omega arith)

  -- what a line numbered s + 1 may use that the line numbered s may not is s
  usable_before : (s x : ℕ) → eqb x s ≡ false → Usable outer first (suc s) x → Usable outer first s x
  usable_before s x n (outer_name m) = outer_name m
  usable_before s x n (lower_gate l h) = let d : x ≡ s → ⊥ = eqb-false x s n in lower_gate l (omega arith)

  known_next : (s : ℕ) (o : FreeIn) (g : Gate) → (gate_name g).number ≡ s
      → ((x : ℕ) → mem x (numbers_of (names_of (gate_inputs g))) ≡ true → Usable outer first s x) → Known s o
      → Known (suc s) (λ x. pick (eqb x (gate_name g).number) (keep (λ y. not (mem y (numbers_of (gate_variables g)))) (free_in_inputs o (gate_inputs g))) (o x))
  known_next s o g n u known x usable y m = go (look (eqb x (gate_name g).number))
    where
      go : Is (eqb x (gate_name g).number) → mem y outer ≡ true
      go (is_true q) =
          in_inputs o y (gate_inputs g) (λ z k j. known z (u z k) y j)
          (kept_from (λ z. not (mem z (numbers_of (gate_variables g)))) (free_in_inputs o (gate_inputs g)) y (ap (mem y) (sym (pick_yes _ _ _ q)) ∙ m))
      go (is_false q) = known x (usable_before s x (ap (eqb x) (sym n) ∙ q) usable) y (ap (mem y) (sym (pick_no _ _ _ q)) ∙ m)

  known_gates : {s e : ℕ} {gs : List Gate} → Rising outer first s gs e → (o : FreeIn) → Known s o → Known e (free_in_gates o gs)
  unfolding free_in_gates
  known_gates no_lines_lem o known = known
  known_gates (a_line {s = s} {g = g} n v u rest) o known = known_gates rest _ (known_next s o g n u known)

pub file_bound : FileBound
unfolding unbound
file_bound nodes most ns ps xs form =
    let t = table_of ns [] in
    let bs = blocks_of ps xs in
    let file = form_file ns ps xs in
    nothing_kept (λ y. not (mem y (numbers_of (outer_names file)))) (free_in_gates (λ x. x ∷ []) file.gates file.output.name.number)
    (λ y m. ap not (ap (mem y) (form_outer nodes most ns ps xs form)
    ∙ known_gates (outer_of t bs) (first_of t bs) (form_rising nodes most ns ps xs form) (λ x. x ∷ []) (known_first (outer_of t bs) (first_of t bs))
    file.output.name.number (form_output nodes most ns ps xs form) y m))
