-- Lines and columns, a byte at a time.
-- Assumes nothing.
use mathlib.Core.Path.{◌≡◌, refl}
use mathlib.Core.List.{List, [], ◌∷◌, ◌++◌}
use Prim.Native.Nat.{ℕ, suc, ◌+◌, ◌<◌, ◌≤◌}
use lib.ListN.{length, take, get_or}
use lib.Seq.{take-suc}
use native.Mathlib.Omega.{arith}
use Rattle.lists.proofs.Parts.{pick_within}
use Rattle.command_line.specs.Place.{next_line, next_column, through}

through_snoc : (step : ℕ → ℕ → ℕ) (here : ℕ) (text : List ℕ) (byte : ℕ)
    → through step here (text ++ (byte ∷ [])) ≡ step (through step here text) byte
unfolding through
through_snoc step here [] byte = refl
through_snoc step here (b ∷ text) byte = through_snoc step (step here b) text byte

pub through_next : (step : ℕ → ℕ → ℕ) (here : ℕ) (text : List ℕ) (at : ℕ) → at < length text
    → through step here (take (at + 1) text) ≡ step (through step here (take at text)) (get_or text at 0)
through_next step here text at l =
    let add_one : at + 1 ≡ suc at = omega arith in
    rw (add_one, take-suc text at 0 l) (through_snoc step here (take at text) (get_or text at 0))

pub line_bound : (here byte : ℕ) → next_line here byte ≤ here + 1
line_bound here byte = pick_within _ _ _ _ (omega arith) (omega arith)

pub column_bound : (here byte : ℕ) → next_column here byte ≤ here + 1
column_bound here byte = pick_within _ _ _ _ (omega arith) (omega arith)
