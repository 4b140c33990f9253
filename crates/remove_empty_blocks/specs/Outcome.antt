-- What removing a table's empty blocks answers and leaves in the lent buffer (request S-6).
-- Assumes nothing.
use Rattle.std.specs.Prelude.{List, ◌≡◌, ℕ, ◌*◌, ◌≤◌, ltb, length, take}
use Rattle.lists.specs.Parts.{overwrite}
use Rattle.formula.specs.Words.{width, node_count}
use Rattle.refusals.specs.Outcome.{Outcome, done, unless_refused, unless_short}
use Rattle.acceptance.specs.Verdict.{stored_verdict}
use Rattle.empty_blocks.specs.Removal.{without_empty_blocks}
use Rattle.empty_blocks.specs.Promise.{RemovalOf}
use Rattle.remove_empty_blocks.specs.declared.Removed.{Removed}

-- An answer and what the buffer holds with it. The size is "the nodes left".
unfoldable pub after : Removed → List ℕ → Outcome ℕ (List ℕ)
after r nodes = record { answer = record { verdict = r.verdict; sizes = r.nodes }; buffers = nodes }

-- Refusal 9, or these words at the buffer's start: "words after the last one written keep their content".
unfoldable pub storing : List ℕ → List ℕ → Outcome ℕ (List ℕ)
storing nodes left =
    unless_short (ltb (length nodes) (length left)) 0 nodes
    (record { answer = done (node_count left); buffers = overwrite nodes 0 left })

-- "tidying gives 1 to 9 as before"
unfoldable pub removed : List ℕ → List ℕ → List ℕ → Outcome ℕ (List ℕ)
removed ws ls nodes = unless_refused (stored_verdict ws ls) 0 nodes (storing nodes (without_empty_blocks ws))

-- So no number above 9, and never 16: the theorem `up_to_nine` (proofs/UpToNine.antt).
abbrev pub UpToNine : Type 0
UpToNine = (ws ls nodes : List ℕ) → (removed ws ls nodes).answer.verdict.number ≤ 9

-- If done, what stands in the buffer, as far as the size says, is the table without its empty blocks.
unfoldable pub TableLeft : List ℕ → List ℕ → Outcome ℕ (List ℕ) → Type 0
TableLeft ws ls o =
    o.answer.verdict.number ≡ 0 → RemovalOf ws ls (take (width * o.answer.sizes) o.buffers)
