-- What listing a table's free variables answers and leaves in the lent buffer (document 01, "When the lifter says no").
-- Assumes nothing.
use Rattle.std.specs.Prelude.{List, ◌≡◌, ℕ, ◌≤◌, ltb, length}
use Rattle.lists.specs.Parts.{overwrite}
use Rattle.formula.specs.Words.{table_of}
use Rattle.formula.specs.FreeVariables.{free_variables}
use Rattle.refusals.specs.Outcome.{Outcome, done, unless_refused, unless_short}
use Rattle.acceptance.specs.Verdict.{verdict}
use Rattle.free_variables.specs.declared.Listed.{Listed}

-- An answer and what the buffer holds with it. The sizes are, "for the open-names call the count of names written".
unfoldable pub after : Listed → List ℕ → Outcome ℕ (List ℕ)
after r names = record { answer = record { verdict = r.verdict; sizes = r.count }; buffers = names }

-- Refusal 9, or the variables xs at the buffer's start: "words after the last one written keep their content".
unfoldable pub listing : List ℕ → List ℕ → Outcome ℕ (List ℕ)
listing names xs =
    unless_short (ltb (length names) (length xs)) 0 names
    (record { answer = done (length xs); buffers = overwrite names 0 xs })

-- Refusals 1 to 8 and 16, then 9.
unfoldable pub listed : List ℕ → List ℕ → List ℕ → Outcome ℕ (List ℕ)
listed ws ls names = unless_refused (verdict ws ls) 0 names (listing names (free_variables (table_of ws ls)))

-- "Room for 2,048 names is always enough" (request S-11): 9 is then never given. The theorem `room_enough` (proofs/RoomEnough.antt).
abbrev pub RoomEnough : Type 0
RoomEnough = (ws ls names : List ℕ) → 2048 ≤ length names → (listed ws ls names).answer.verdict ≡ verdict ws ls
