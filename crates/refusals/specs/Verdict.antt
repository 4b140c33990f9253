-- Verdicts: the number of a refusal, its position (document 01, "When the lifter says no") and two users (request S-2).
-- Assumes nothing.
use Rattle.std.specs.Prelude.{List, ◌≡◌, ℕ, get_or}
use Rattle.refusals.specs.declared.Users.{Users}
use Rattle.refusals.specs.declared.Verdict.{Verdict}

-- "0 for every other number"
abbrev pub no_users : Users
no_users = record { first = 0; second = 0 }

-- "the two lowest nodes that name it, 0 and 0 if none does": the first two of a node's users.
unfoldable pub first_two : List ℕ → Users
first_two us = record { first = get_or us 0 0; second = get_or us 1 0 }

-- A refusal of any number but 8.
unfoldable pub refusal : ℕ → ℕ → Verdict
refusal number position = record { number = number; position = position; users = no_users }

-- Refusal 8.
unfoldable pub not_a_tree : ℕ → Users → Verdict
not_a_tree position users = record { number = 8; position = position; users = users }

-- "the number (0 is done), the place (0 if done)"
unfoldable pub accepted : Verdict
accepted = record { number = 0; position = 0; users = no_users }

-- A verdict of a number and a position alone.
abbrev pub Plain : Verdict → Type 0
Plain v = v ≡ refusal v.number v.position
