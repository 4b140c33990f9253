-- The lines of the gates below the root, put one node after the other, and those of the root.
-- Assumes nothing.
use mathlib.Core.Path.{sym}
use mathlib.Core.Bool.{true}
use mathlib.Core.List.{List}
use Prim.Native.Nat.{ℕ, ◌+◌, ◌-◌, ◌≤◌}
use native.Mathlib.Numerals.{add-one}
use lib.ListN.{length, take}
use Rattle.lists.specs.Parts.{up_to}
use Rattle.formula.specs.Node.{Table}
use Rattle.texts.specs.Put.{Put}
use Rattle.texts.proofs.Put.{put_as}
use Rattle.qdimacs_form.specs.Clauses.{no_operand}
use Rattle.qdimacs_words.specs.Words.{Loose}
use Rattle.qdimacs_words.proofs.Loose.{loose_none, loose_then, loose_local}
use Rattle.qdimacs_rows.specs.Rows.{lines_text}
use Rattle.qdimacs_clauses.specs.Held.{clauses_at, lines_below, root_text}

module _ (t : Table) (variables : ℕ → ℕ) where
  -- No node is done, and one more.
  pub below_none : {before : List ℕ} {at : ℕ} → Loose before at (lines_below t variables 0) before at
  unfolding lines_below up_to
  below_none = loose_none

  pub below_next : (i : ℕ) {before mid after : List ℕ} {at m n : ℕ} → Loose before at (lines_below t variables i) mid m
      → Loose mid m (lines_text (clauses_at t variables i)) after n → Loose before at (lines_below t variables (i + 1)) after n
  unfolding lines_below up_to
  below_next i p q = rw add-one (loose_then p q)

  -- The root's gate and its own clause, put into a buffer of their own and from there into the text.
  pub root_put : {local mid last before after : List ℕ} {m n at next : ℕ}
      → Loose local 0 (lines_text (clauses_at t variables (t.size - 1))) mid m
      → Loose mid m (lines_text (no_operand (variables (t.size - 1)) true)) last n
      → n + 8 ≤ length local
      → Put before at (take n last) after next
      → Put before at (root_text t variables) after next
  unfolding root_text no_operand
  root_put a b room p = put_as (sym (loose_local (loose_then a b) room)) p
