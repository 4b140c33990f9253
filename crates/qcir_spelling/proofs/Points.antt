-- What holds of every point: where lines start and end, and where names may come.
-- Assumes nothing.
use mathlib.Core.Path.{◌≡◌, refl}
use mathlib.Core.Bool.{Bool, true, false, not, ◌&&◌, ◌||◌}
use mathlib.Core.List.{List}
use Prim.Native.Nat.{ℕ}
use lib.Dec.{eqb}
use borrow.Author.Tests.{eqb-true, not-true}
use Rattle.lists.specs.Choice.{and_left, and_right, or_cases, clash}
use Rattle.qcir_spelling.specs.Machine.{Row, row, row_at, arrow, arrow_of, point, points}
use Rattle.qcir_spelling.proofs.Rows.{every, passes, every_arrow, arrow_passes}

-- No line ends where it starts.
unfoldable start_test : ℕ → Row → Bool
start_test c r = not r.starts || eqb r.ended 0

start_row : (c : ℕ) → start_test c (point c) ≡ true
unfolding start_test every points row arrow
start_row = passes start_test (λ c. refl) refl

pub start_ends : (c : ℕ) → (point c).starts ≡ true → (point c).ended ≡ 0
unfolding start_test
start_ends c h =
    or_cases (not (point c).starts) (eqb (point c).ended 0) (start_row c) (λ n. clash h (not-true _ n)) (λ e. eqb-true _ 0 e)

-- Where a line ends another starts.
unfoldable end_test : ℕ → Row → Bool
end_test c r = eqb r.ended 0 || (point r.ended).starts

end_row : (c : ℕ) → end_test c (point c) ≡ true
unfolding end_test every points row arrow row_at
end_row = passes end_test (λ c. refl) refl

pub end_starts : (c : ℕ) → ((point c).ended ≡ 0 → ⊥) → (point (point c).ended).starts ≡ true
unfolding end_test
end_starts c n =
    or_cases (eqb (point c).ended 0) (point (point c).ended).starts (end_row c) (λ e. absurd (n (eqb-true _ 0 e))) (λ e. e)

-- After a name no name may come, and no line starts.
unfoldable name_test : ℕ → Row → Bool
name_test c r = eqb r.named 0 || (eqb (point r.named).named 0 && not (point r.named).starts)

name_row : (c : ℕ) → name_test c (point c) ≡ true
unfolding name_test every points row arrow row_at
name_row = passes name_test (λ c. refl) refl

pub name_once : (c : ℕ) → ((point c).named ≡ 0 → ⊥) → ((point (point c).named).named ≡ 0) × ((point (point c).named).starts ≡ false)
unfolding name_test
name_once c n =
    or_cases (eqb (point c).named 0) _ (name_row c) (λ e. absurd (n (eqb-true _ 0 e)))
    (λ e. (eqb-true _ 0 (and_left _ _ e), not-true _ (and_right (eqb (point (point c).named).named 0) _ e)))

-- After a word no line starts.
unfoldable word_end_test : ℕ → Row → Bool
word_end_test c r = every_arrow (λ a. not (point a.target).starts) r.words

word_end_row : (c : ℕ) → word_end_test c (point c) ≡ true
unfolding word_end_test every every_arrow points row arrow row_at
word_end_row = passes word_end_test (λ c. refl) refl

pub word_within : (c : ℕ) (w : List ℕ) → ((arrow_of w (point c).words).target ≡ 0 → ⊥) → (point (arrow_of w (point c).words).target).starts ≡ false
unfolding word_end_test
word_within c w n =
    not-true _ (arrow_passes (λ a. not (point a.target).starts) w (point c).words (word_end_row c) n).0

-- No line starts after the header; lines start after the output line.
pub within_1 : (point 1).starts ≡ false
unfolding points row_at row
within_1 = refl

pub starts_24 : (point 24).starts ≡ true
unfolding points row_at row
starts_24 = refl
