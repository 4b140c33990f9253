-- Laws of the parts of a block's constraint.
-- Assumes nothing.
use mathlib.Core.Path.{◌≡◌, refl, sym, ◌∙◌, subst}
use mathlib.Core.List.{List, [], ◌∷◌}
use Prim.Native.Nat.{ℕ, zero, suc, ◌+◌, ◌-◌, ◌*◌, ◌≤◌}
use native.Mathlib.Omega.{arith}
use native.Mathlib.Numerals.{add-one}
use lib.Dec.{eqb}
use lib.ListN.{length, length-append}
use borrow.Author.Tests.{eq-eqb, ne_eqb}
use Rattle.lists.specs.Choice.{pick, pick_yes, pick_no}
use Rattle.lists.specs.Parts.{up_to}
use Rattle.formula.specs.Node.{Node, variable, operator}
use Rattle.formula.specs.Words.{width}
use Rattle.prenex_form.specs.Matrix.{and, iff}
use Rattle.matrix_writer.specs.Buffer.{Wrote}
use Rattle.matrix_writer.specs.Entries.{entry_nodes, entries_nodes}
use Rattle.matrix_writer.proofs.Buffer.{with_none, wrote_then}

module _ (x y at k : ℕ) where
  pub entry_first : k ≡ 0 → entry_nodes x y at k ≡ variable x ∷ variable y ∷ operator iff at (at + 1) ∷ []
  unfolding entry_nodes
  entry_first h = pick_yes _ _ _ (eq-eqb k 0 h)

  pub entry_later : (k ≡ 0 → ⊥) → entry_nodes x y at k ≡ variable x ∷ variable y ∷ operator iff at (at + 1) ∷ operator and (at - 1) (at + 2) ∷ []
  unfolding entry_nodes
  entry_later h = pick_no _ _ _ (ne_eqb k 0 h)

length_pick : (k : ℕ) (a b : List Node) → length a ≡ 3 → length b ≡ 4 → length (pick (eqb k 0) a b) ≡ 4 * suc k - 1 - (4 * k - 1)
length_pick zero a b p q = rw (pick_yes (eqb 0 0) a b refl) p
length_pick (suc k) a b p q = rw (pick_no (eqb (suc k) 0) a b (ne_eqb (suc k) 0 (λ e. omega arith))) (omega arith)

module _ (x y s : ℕ) where
  -- the nodes of entry k
  abbrev entry_at : ℕ → List Node
  entry_at k = entry_nodes (x + k) (y + k) (s + (4 * k - 1)) k

  length_entry : (k : ℕ) → length (entry_at k) ≡ 4 * suc k - 1 - (4 * k - 1)
  unfolding entry_nodes
  length_entry k = length_pick k _ _ refl refl

  pub length_entries : (k : ℕ) → length (entries_nodes x y s k) ≡ 4 * k - 1
  unfolding entries_nodes up_to
  length_entries zero = refl
  length_entries (suc k) = length-append (up_to entry_at k) (entry_at k) ∙ omega (arith, length_entries k, length_entry k)

  -- the first k entries are written
  abbrev pub Done : List ℕ → List ℕ → ℕ → ℕ → Type 0
  Done out nodes next k = (next ≡ s + (4 * k - 1)) × Wrote out s (entries_nodes x y s k) nodes next

  pub done_none : (out : List ℕ) → Done out out s 0
  unfolding entries_nodes up_to
  done_none out = (omega arith, record { nodes_are = sym (with_none out s); next_is = omega arith })

  pub done_next : (out nodes last : List ℕ) (next after k : ℕ) → Done out nodes next k → Wrote nodes next (entry_nodes (x + k) (y + k) next k) last after
      → width * (s + (4 * suc k - 1)) ≤ length out → Done out last after (k + 1)
  unfolding entries_nodes up_to
  done_next out nodes last next after k d w fits =
      let v : Wrote nodes next (entry_at k) last after = subst (λ a. Wrote nodes next (entry_nodes (x + k) (y + k) a k) last after) d.0 w in
      let e : after ≡ s + (4 * suc k - 1) = omega (arith, v.next_is, length_entry k) in
      rw add-one (e, wrote_then d.1 v (omega arith))
