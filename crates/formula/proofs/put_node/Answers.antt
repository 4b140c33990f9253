-- `formula::put_node` meets its contract: the stores of a node's words are one write.
-- Assumes nothing.
use mathlib.Core.Path.{◌≡◌}
use mathlib.Core.List.{List, [], ◌∷◌}
use Prim.Native.Nat.{ℕ, suc, ◌+◌, ◌≤◌}
use lib.ListN.{length, set, length-set}
use native.Mathlib.Numerals.{add-one, add-two}
use native.Mathlib.Omega.{arith}
use Rattle.lists.specs.Parts.{overwrite}
use Rattle.lists.proofs.Overwrite.{sets_overwrite}
use Rattle.formula.specs.Words.{width, word_list}
use Rattle.formula.specs.declared.NodeWords.{NodeWords}
use Rattle.formula.proofs.put_node.Goals as goal

-- a node's words, stored one after the other
stores : (out : List ℕ) (at : ℕ) (w : NodeWords) → at + width ≤ length out
    → set (set (set (set out at w.kind) (at + 1) w.a) (at + 2) w.b) (at + 3) w.c ≡ overwrite out at (word_list w)
unfolding word_list
stores out at w fits =
    let e : at + 3 ≡ suc (suc (suc at)) = omega arith in
    rw (add-one, add-two, e) (sets_overwrite out at (w.kind ∷ w.a ∷ w.b ∷ w.c ∷ []) fits)

pub bounds-nodes-first-2 : goal.bounds-nodes-first-2
bounds-nodes-first-2 c = simp length-set (omega arith)

pub bounds-nodes-first-3 : goal.bounds-nodes-first-3
bounds-nodes-first-3 c = simp length-set (omega arith)

pub bounds-nodes-first-4 : goal.bounds-nodes-first-4
bounds-nodes-first-4 c = simp length-set (omega arith)

pub shape_of-nodes : goal.shape_of-nodes
shape_of-nodes c = simp length-set

pub returns : goal.returns
returns c = stores _ _ _ (omega arith)
