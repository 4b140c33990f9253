-- Numbers copied one by one into a list.
-- Assumes nothing.
use mathlib.Core.List.{List, [], ◌∷◌}
use mathlib.Core.Path.{◌≡◌, sym, ◌∙◌, ap}
use Prim.Native.Nat.{ℕ, ◌+◌, ◌≤◌, ◌<◌}
use native.Mathlib.Omega.{arith}
use native.Mathlib.Numerals.{add-one}
use lib.ListN.{length, get_or, set, take}
use lib.Seq.{length-take-le, take-suc}
use Rattle.lists.specs.Parts.{overwrite}
use Rattle.lists.proofs.Overwrite.{overwrite_nil, length_overwrite, set_one}
use Rattle.qcir_nodes.proofs.Appending.{write_after}

-- nothing copied yet
pub copy_start : (out : List ℕ) (at : ℕ) (xs : List ℕ) → out ≡ overwrite out at (take 0 xs)
copy_start out at xs = sym (overwrite_nil out at)

-- one number more
pub copy_next : (out cur : List ℕ) (at k : ℕ) (xs : List ℕ) → k < length xs → at + k + 1 ≤ length out → cur ≡ overwrite out at (take k xs)
    → set cur (at + k) (get_or xs k 0) ≡ overwrite out at (take (k + 1) xs)
copy_next out cur at k xs low fits e =
    let l : length (take k xs) ≡ k = length-take-le k xs (omega arith) in
    let m : length cur ≡ length out = ap length e ∙ length_overwrite out at (take k xs) (omega arith) in
    rw (add-one, take-suc xs k 0 low) (write_after out cur _ at (at + k) (take k xs) (get_or xs k 0 ∷ []) e (set_one cur (at + k) (get_or xs k 0) (omega arith)) (omega arith) (omega arith))
