-- Tables that are written as the same lines have the same open names.
-- Assumes nothing.
use mathlib.Core.Path.{◌≡◌, sym, ◌∙◌, ap, subst, fun_ext}
use mathlib.Core.Bool.{Bool, true, false, not, ◌&&◌}
use mathlib.Core.List.{List, ◌∷◌}
use Prim.Native.Nat.{ℕ, ◌-◌, ◌<◌}
use native.Mathlib.Omega.{arith}
use lib.Dec.{ltb}
use borrow.Author.Tests.{ltb-true, lt-ltb}
use Rattle.lists.specs.Choice.{pick, pick_yes, pick_no, Is, is_true, is_false, look, same_test}
use Rattle.lists.specs.Search.{lowest, some_below}
use Rattle.lists.specs.Members.{times, ListOf}
use Rattle.lists.specs.Parts.{sum}
use Rattle.lists.proofs.Search.{lowest_holds, lowest_least}
use Rattle.lists.proofs.Parts.{term_le, sum_positive}
use Rattle.lists.proofs.Passing.{one_list}
use Rattle.formula.specs.Node.{Table, is_block}
use Rattle.formula.specs.Form.{Block, binds}
use Rattle.formula.specs.FreeVariables.{stands_at}
use Rattle.formula.specs.Tree.{Tree}
use Rattle.qcir.specs.File.{numbers_of}
use Rattle.qcir.specs.Refusals.{gate_names, input_numbers}
use Rattle.qcir_form.specs.File.{written, node_literal_of, gates_of, occurs, free_names}
use Rattle.qcir_form.proofs.Numbers.{open_lists}
use Rattle.qcir_form.proofs.UsedOnce.{used_count}

-- Some number passes a test exactly if there are more than none.
module _ (p : ℕ → Bool) (n : ℕ) where
  abbrev count : ℕ
  count = sum (λ j. pick (p j) 1 0) n

  one_passes : (i : ℕ) → Is (p i) → 0 < pick {A = ℕ} (p i) 1 0 → p i ≡ true
  one_passes i (is_true e) h = e
  one_passes i (is_false e) h = absurd (omega (arith, pick_no {A = ℕ} (p i) 1 0 e))

  some_counts : some_below p n ≡ true → ltb 0 count ≡ true
  unfolding some_below
  some_counts e =
      let l : lowest p n < n = ltb-true _ _ e in
      let one : pick {A = ℕ} (p (lowest p n)) 1 0 ≡ 1 = pick_yes _ _ _ (lowest_holds p n l) in
      lt-ltb 0 count (omega (arith, term_le (λ j. pick (p j) 1 0) n (lowest p n) l))

  counts_some : ltb 0 count ≡ true → some_below p n ≡ true
  unfolding some_below
  counts_some e =
      let r = sum_positive (λ j. pick (p j) 1 0) n (ltb-true 0 count e) in
      lt-ltb _ n (omega (arith, r.1, lowest_least p n r.0 r.1 (one_passes r.0 (look (p r.0)) r.2)))

  some_count : some_below p n ≡ ltb 0 count
  some_count = same_test (some_below p n) (ltb 0 count) some_counts counts_some

-- A matrix: a tree without blocks.
pub record MatrixTree (t : Table) : Type 0 where
  pub tree : Tree t
  pub plain : (i : ℕ) → i < t.size → is_block (t.node i) ≡ false

-- Matrices that have the same output and gate lines.
module _ (t s : Table) (p : MatrixTree t) (q : MatrixTree s) (first : ℕ)
    (output : node_literal_of t first (t.size - 1) ≡ node_literal_of s first (s.size - 1)) (gates : gates_of t first ≡ gates_of s first) where
  same_count : (x : ℕ) → sum (λ j. pick (written t j && stands_at x (t.node j)) 1 0) t.size
      ≡ sum (λ j. pick (written s j && stands_at x (s.node j)) 1 0) s.size
  same_count x =
      let used : times x ((node_literal_of t first (t.size - 1)).name.number ∷ input_numbers (gates_of t first))
      ≡ times x ((node_literal_of s first (s.size - 1)).name.number ∷ input_numbers (gates_of s first)) =
      λ i. times x ((output i).name.number ∷ input_numbers (gates i)) in
      let names : times x (numbers_of (gate_names (gates_of t first))) ≡ times x (numbers_of (gate_names (gates_of s first))) =
      ap (λ gs. times x (numbers_of (gate_names gs))) gates in
      omega (arith, used_count t p.tree p.plain first x, used_count s q.tree q.plain first x)

  pub same_occurs : (x : ℕ) → occurs t x ≡ occurs s x
  unfolding occurs
  same_occurs x = some_count _ t.size ∙ ap (ltb 0) (same_count x) ∙ sym (some_count _ s.size)

  pub same_open : (bs cs : List Block) → ((x : ℕ) → binds bs x ≡ binds cs x) → free_names t bs ≡ free_names s cs
  same_open bs cs h =
      let e : ◌≡◌ {A = ℕ → Bool} (λ x. occurs t x && not (binds bs x)) (λ x. occurs s x && not (binds cs x)) =
      fun_ext (λ x. λ i. same_occurs x i && not (h x i)) in
      one_list (λ x. occurs t x && not (binds bs x)) (free_names t bs) (free_names s cs) (open_lists t bs)
      (subst (λ (p : ℕ → Bool). ListOf p (free_names s cs)) (sym e) (open_lists s cs))
