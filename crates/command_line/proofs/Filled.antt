-- A buffer that reads fill from its front on.
-- Assumes nothing.
use Rattle.std.proofs.Common.{◌≡◌, ℕ, ◌+◌, ◌≤◌, List, ◌++◌, arith, length, take, sym, ap, ◌∙◌, le_refl, drop_at, length-take-le}
use Rattle.std.proofs.lemmas.Slice.{take-put_mid_below}
use borrow.Rule.Slice.PartMut.{put_mid, post_of}
use lib.Seq.{take-add, take-append-le}

-- what a read put after the first bytes stands behind them
pub read_on : (at k n : ℕ) (xs ys : List ℕ) → at ≤ length xs → n ≤ length ys → take at xs ++ take n ys ≡ take (at + n) (put_mid at k xs ys)
read_on at k n xs ys within fits =
    let front : take at (put_mid at k xs ys) ≡ take at xs = take-put_mid_below _ _ _ _ _ (le_refl _) within in
    let after = post_of at k xs in
    let behind = ap (take n) (drop_at (take at xs) (ys ++ after) at (length-take-le at xs within)) ∙ take-append-le n ys after fits in
    ap (λ l. l ++ take n ys) (sym front) ∙ ap (λ l. take at (put_mid at k xs ys) ++ l) (sym behind) ∙ sym (take-add at n (put_mid at k xs ys))

-- a read that gave nothing left the first bytes as they were
pub read_none : (at k n : ℕ) (xs ys : List ℕ) → n ≡ 0 → at ≤ length xs → n ≤ length ys → take at xs ++ take n ys ≡ take at (put_mid at k xs ys)
read_none at k n xs ys none within fits =
    let same : at + n ≡ at = omega (arith, none) in
    read_on at k n xs ys within fits ∙ ap (λ m. take m (put_mid at k xs ys)) same
