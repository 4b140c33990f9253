-- A text has at least two bytes for each of its tokens.
-- Assumes nothing.
use mathlib.Core.Path.{◌≡◌, refl, subst}
use mathlib.Core.Bool.{Bool, true, false, ◌&&◌, ◌||◌}
use mathlib.Core.List.{List, [], ◌∷◌, ◌++◌}
use Prim.Native.Nat.{ℕ, suc, ◌+◌, ◌*◌, ◌≤◌}
use native.Mathlib.Omega.{arith}
use lib.Dec.{eqb, leb}
use lib.ListN.{length, get_or, length-append}
use borrow.Author.Tests.{eqb-true, leb-true}
use Rattle.lists.specs.Choice.{pick, and_left, and_right, or_cases}
use Rattle.qcir_tokens.specs.Tokens.{Token, token}
use Rattle.qcir_spelling.specs.Machine.{Arrow, Row, row, arrow, arrow_of, point, points, Place, dead, heading, headed, padded, counted, ready, inside, digits, comment, State, start, run, step, move, move_name, emit, tokens_of}
use Rattle.qcir_spelling.proofs.Rows.{every, passes, every_arrow, arrow_passes}
use Rattle.qcir_spelling.proofs.Turns.{Read, whole, part, no_word, Number, within_most, too_high, Ended, line, blank, no_end, Between, by_space, by_end, by_sharp, by_digit, by_word, Turn, from_dead, no_header, in_header, end_header, no_count, first_space, end_headed, no_padding, next_space, first_count, end_padded, next_count, after_count, at_point, in_word, next_digit, after_name, in_comment, end_comment, turn, run_taken}

-- The bytes taken since the last token that its two bytes do not count: at each point, and at each place.
unfoldable spare : ℕ → ℕ
spare c =
    get_or
    (0 ∷ 0 ∷ 0 ∷ 0 ∷ 0 ∷ 1 ∷ 0 ∷ 1 ∷ 0 ∷ 0 ∷ 0 ∷ 1 ∷ 0 ∷ 0 ∷ 1 ∷ 0 ∷ 1 ∷ 0 ∷ 0 ∷ 0 ∷ 0 ∷ 1 ∷ 1 ∷ 0 ∷ 0 ∷ 1 ∷ 2 ∷ 2 ∷ 2 ∷ 2 ∷ 2 ∷ 2 ∷ 1
    ∷ 0 ∷ 0 ∷ 1 ∷ 1 ∷ 0 ∷ 0 ∷ 1 ∷ 1 ∷ 0 ∷ 0 ∷ 1 ∷ 0 ∷ 1 ∷ 1 ∷ []) c 0

unfoldable spare_at : Place → ℕ
spare_at dead = 0
spare_at (heading hs) = 0
spare_at headed = 0
spare_at padded = 0
spare_at counted = 0
spare_at (ready c) = spare c
spare_at (inside c w) = spare c + length w
spare_at (digits c) = spare c
spare_at (comment c) = spare c

-- the bytes that a role's token takes
unfoldable price : ℕ → ℕ
price role = pick (eqb role 0) 0 2

unfoldable arrow_test : ℕ → Arrow → Bool
arrow_test c a = leb (spare a.target + price a.role) (spare c + length a.word)

unfoldable row_test : ℕ → Row → Bool
row_test c r =
    every_arrow (arrow_test c) r.words
    && ((eqb r.named 0 || leb (spare r.named) (spare c + 1)) && (eqb r.ended 0 || leb (spare r.ended) (spare c + 1)))

row_paid : (c : ℕ) → row_test c (point c) ≡ true
unfolding row_test arrow_test spare price every every_arrow points row arrow pick
row_paid = passes row_test (λ c. refl) refl

word_paid : (c : ℕ) (w : List ℕ) → ((arrow_of w (point c).words).target ≡ 0 → ⊥)
    → spare (arrow_of w (point c).words).target + price (arrow_of w (point c).words).role ≤ spare c + length w
unfolding row_test arrow_test
word_paid c w n =
    let r = arrow_passes (arrow_test c) w (point c).words (and_left _ _ (row_paid c)) n in
    let h = leb-true _ _ r.0 in
    subst (λ v. spare (arrow_of w (point c).words).target + price (arrow_of w (point c).words).role ≤ spare c + length v) r.1 h

name_paid : (c : ℕ) → ((point c).named ≡ 0 → ⊥) → spare (point c).named ≤ spare c + 1
unfolding row_test
name_paid c n =
    or_cases (eqb (point c).named 0) _ (and_left _ _ (and_right (every_arrow (arrow_test c) (point c).words) _ (row_paid c)))
    (λ e. absurd (n (eqb-true _ 0 e))) (λ e. leb-true _ _ e)

end_paid : (c : ℕ) → ((point c).ended ≡ 0 → ⊥) → spare (point c).ended ≤ spare c + 1
unfolding row_test
end_paid c n =
    or_cases (eqb (point c).ended 0) _
    (and_right (eqb (point c).named 0 || leb (spare (point c).named) (spare c + 1)) _ (and_right (every_arrow (arrow_test c) (point c).words) _ (row_paid c)))
    (λ e. absurd (n (eqb-true _ 0 e))) (λ e. leb-true _ _ e)

-- The bytes taken pay for the tokens, and for what is spared.
abbrev Paid : State → Type 0
Paid s = 2 * length s.tokens + spare_at s.place ≤ s.taken

-- the bytes that it takes for them before a step from point c
abbrev Before : State → ℕ → Type 0
Before s c = 2 * length s.tokens + spare c ≤ s.taken

emit_paid : (b : Bool) (ts : List Token) (t : Token) → 2 * length (pick b ts (ts ++ (t ∷ []))) ≡ 2 * length ts + pick b 0 2
unfolding pick
emit_paid true ts t = omega arith
emit_paid false ts t = simp length-append (omega arith)

read_paid : {s : State} {c : ℕ} {w : List ℕ} {z : State} → Read s c w z → 2 * length s.tokens + (spare c + length w) ≤ suc s.taken → Paid z
unfolding move emit spare_at price
read_paid {s = s} {c = c} {w = w} (whole n) h =
    omega (arith, word_paid c w n, emit_paid (eqb (arrow_of w (point c).words).role 0) s.tokens (token (arrow_of w (point c).words).role s.pending))
read_paid (part e q) h = omega arith
read_paid no_word h = omega arith

number_paid : {most : ℕ} {s z : State} {c n q : ℕ} → Number most s c n q z → 2 * length s.tokens + spare c ≤ suc s.taken → Paid z
unfolding move move_name spare_at
number_paid (within_most l) h = omega arith
number_paid too_high h = omega arith

ended_paid : {s : State} {c : ℕ} {z : State} → Ended s c z → Before s c → Paid z
unfolding move spare_at
ended_paid {c = c} (line n) h = omega (arith, end_paid c n)
ended_paid (blank e) h = omega arith
ended_paid no_end h = omega arith

between_paid : {most : ℕ} {s z : State} {c b : ℕ} → Between most s c b z → Before s c → Paid z
unfolding move spare_at
between_paid (by_space e) h = omega arith
between_paid (by_end e r) h = ended_paid r h
between_paid (by_sharp e q) h = omega arith
between_paid {c = c} (by_digit e n r) h = number_paid r (omega (arith, name_paid c n))
between_paid (by_word r) h = read_paid r (omega arith)

turn_paid : {most : ℕ} {s z : State} {b : ℕ} {place : Place} → Turn most s b place z → 2 * length s.tokens + spare_at place ≤ s.taken → Paid z
unfolding move spare_at spare
turn_paid from_dead h = omega arith
turn_paid no_header h = omega arith
turn_paid (in_header e) h = omega arith
turn_paid (end_header e) h = omega arith
turn_paid no_count h = omega arith
turn_paid (first_space e) h = omega arith
turn_paid (end_headed e r) h = ended_paid r h
turn_paid no_padding h = omega arith
turn_paid (next_space e) h = omega arith
turn_paid (first_count e) h = omega arith
turn_paid (end_padded e r) h = ended_paid r h
turn_paid (next_count e) h = omega arith
turn_paid (after_count r) h = between_paid r h
turn_paid (at_point r) h = between_paid r h
turn_paid {b = b} (in_word {w = w} r) h = read_paid r (omega (arith, length-append w (b ∷ [])))
turn_paid (next_digit e r) h = number_paid r (omega arith)
turn_paid (after_name r) h = between_paid r h
turn_paid (in_comment e) h = omega arith
turn_paid (end_comment e) h = omega arith

run_paid : (most : ℕ) (s : State) (t : List ℕ) → Paid s → Paid (run most s t)
unfolding run
run_paid most s [] h = h
run_paid most s (b ∷ t) h = run_paid most (step most s b) t (turn_paid (turn most s b) h)

pub few : (most : ℕ) (text : List ℕ) → 2 * length (tokens_of most text) ≤ length text
unfolding tokens_of start spare_at
few most text =
    let h : Paid (run most start text) = run_paid most start text (omega arith) in
    omega (arith, run_taken most start text)
