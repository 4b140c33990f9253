-- The ways in which the machine takes a byte, and the bytes it takes.
-- Assumes nothing.
use mathlib.Core.Path.{◌≡◌, refl}
use mathlib.Core.Bool.{true, false, not, ◌&&◌}
use mathlib.Core.List.{List, [], ◌∷◌, ◌++◌}
use Prim.Native.Nat.{ℕ, suc, ◌+◌, ◌*◌, ◌-◌, ◌≤◌}
use native.Mathlib.Omega.{arith}
use lib.Dec.{eqb, leb}
use lib.ListN.{length}
use borrow.Author.Tests.{eqb-true, eqb-false, leb-true, not-true}
use Rattle.lists.specs.Choice.{and_left, and_right}
use Rattle.qcir.specs.Spelling.{is_space, is_digit}
use Rattle.qcir_spelling.specs.Machine.{Place, dead, heading, headed, padded, counted, ready, inside, digits, comment, State, run, step, step_at, between, read_word, read_digit, end_line, move, move_name, emit, point, arrow_of, some_begins}
use Rattle.qcir_spelling.proofs.Rows.{choose}

-- The bytes w of a word at point c have been read.
pub data Read (s : State) (c : ℕ) (w : List ℕ) : State → Type 0 where
  whole : ((arrow_of w (point c).words).target ≡ 0 → ⊥) → Read s c w (emit s (ready (arrow_of w (point c).words).target) (arrow_of w (point c).words).role)
  part : (arrow_of w (point c).words).target ≡ 0 → some_begins w (point c).words ≡ true → Read s c w (move s (inside c w))
  no_word : Read s c w (move s dead)

-- The number n of a name that began at q has been read, c being the point after it.
pub data Number (most : ℕ) (s : State) (c n q : ℕ) : State → Type 0 where
  within_most : n ≤ most → Number most s c n q (move_name s (digits c) (record { number = n; position = q }))
  too_high : Number most s c n q (move s dead)

-- LF at point c.
pub data Ended (s : State) (c : ℕ) : State → Type 0 where
  line : ((point c).ended ≡ 0 → ⊥) → Ended s c (move s (ready (point c).ended))
  blank : (point c).starts ≡ true → Ended s c (move s (ready c))
  no_end : Ended s c (move s dead)

-- A byte at point c.
pub data Between (most : ℕ) (s : State) (c b : ℕ) : State → Type 0 where
  by_space : is_space b ≡ true → Between most s c b (move s (ready c))
  by_end : {z : State} → b ≡ 10 → Ended s c z → Between most s c b z
  by_sharp : b ≡ 35 → (point c).starts ≡ true → Between most s c b (move s (comment c))
  by_digit : {z : State} → (leb 49 b && leb b 57) ≡ true → ((point c).named ≡ 0 → ⊥) → Number most s (point c).named (b - 48) s.taken z
      → Between most s c b z
  by_word : {z : State} → Read s c (b ∷ []) z → Between most s c b z

-- A byte.
pub data Turn (most : ℕ) (s : State) (b : ℕ) : Place → State → Type 0 where
  from_dead : Turn most s b dead (move s dead)
  no_header : {hs : List ℕ} → Turn most s b (heading hs) (move s dead)
  in_header : {h i : ℕ} {hs : List ℕ} → b ≡ h → Turn most s b (heading (h ∷ i ∷ hs)) (move s (heading (i ∷ hs)))
  end_header : {h : ℕ} → b ≡ h → Turn most s b (heading (h ∷ [])) (move s headed)
  no_count : Turn most s b headed (move s dead)
  first_space : is_space b ≡ true → Turn most s b headed (move s padded)
  end_headed : {z : State} → b ≡ 10 → Ended s 1 z → Turn most s b headed z
  no_padding : Turn most s b padded (move s dead)
  next_space : is_space b ≡ true → Turn most s b padded (move s padded)
  first_count : is_digit b ≡ true → Turn most s b padded (move s counted)
  end_padded : {z : State} → b ≡ 10 → Ended s 1 z → Turn most s b padded z
  next_count : is_digit b ≡ true → Turn most s b counted (move s counted)
  after_count : {z : State} → Between most s 1 b z → Turn most s b counted z
  at_point : {c : ℕ} {z : State} → Between most s c b z → Turn most s b (ready c) z
  in_word : {c : ℕ} {w : List ℕ} {z : State} → Read s c (w ++ (b ∷ [])) z → Turn most s b (inside c w) z
  next_digit : {c : ℕ} {z : State} → is_digit b ≡ true → Number most s c (10 * s.pending.number + (b - 48)) s.pending.position z
      → Turn most s b (digits c) z
  after_name : {c : ℕ} {z : State} → Between most s c b z → Turn most s b (digits c) z
  in_comment : {c : ℕ} → eqb b 10 ≡ false → Turn most s b (comment c) (move s (comment c))
  end_comment : {c : ℕ} → b ≡ 10 → Turn most s b (comment c) (move s (ready c))

-- They are all.
read : (s : State) (c : ℕ) (w : List ℕ) → Read s c w (read_word s c w)
unfolding read_word
read s c w =
    choose (Read s c w) (eqb (arrow_of w (point c).words).target 0) _ _
    (λ e. choose (Read s c w) (some_begins w (point c).words) _ _ (λ q. part (eqb-true _ 0 e) q) (λ q. no_word)) (λ e. whole (eqb-false _ 0 e))

number : (most : ℕ) (s : State) (c n q : ℕ) → Number most s c n q (read_digit most s c n q)
unfolding read_digit
number most s c n q = choose (Number most s c n q) (leb n most) _ _ (λ e. within_most (leb-true n most e)) (λ e. too_high)

ended : (s : State) (c : ℕ) → Ended s c (end_line s c)
unfolding end_line
ended s c =
    choose (Ended s c) (eqb (point c).ended 0) _ _ (λ e. choose (Ended s c) (point c).starts _ _ (λ q. blank q) (λ q. no_end))
    (λ e. line (eqb-false _ 0 e))

betweens : (most : ℕ) (s : State) (c b : ℕ) → Between most s c b (between most s c b)
unfolding between
betweens most s c b =
    choose (Between most s c b) (is_space b) _ _ (λ e. by_space e)
    (λ e. choose (Between most s c b) (eqb b 10) _ _ (λ e. by_end (eqb-true b 10 e) (ended s c))
    (λ e. choose (Between most s c b) (eqb b 35 && (point c).starts) _ _
    (λ e. by_sharp (eqb-true b 35 (and_left _ _ e)) (and_right (eqb b 35) _ e))
    (λ e. choose (Between most s c b) (leb 49 b && leb b 57 && not (eqb (point c).named 0)) _ _
    (λ e.
    by_digit (and_left _ _ e) (eqb-false _ 0 (not-true _ (and_right (leb 49 b && leb b 57) _ e))) (number most s (point c).named (b - 48) s.taken))
    (λ e. by_word (read s c (b ∷ []))))))

turn_at : (most : ℕ) (s : State) (place : Place) (b : ℕ) → Turn most s b place (step_at most s place b)
unfolding step_at
turn_at most s dead b = from_dead
turn_at most s (heading []) b = no_header
turn_at most s (heading (h ∷ [])) b =
    choose (Turn most s b (heading (h ∷ []))) (eqb b h) _ _ (λ e. end_header (eqb-true b h e)) (λ e. no_header)
turn_at most s (heading (h ∷ i ∷ hs)) b =
    choose (Turn most s b (heading (h ∷ i ∷ hs))) (eqb b h) _ _ (λ e. in_header (eqb-true b h e)) (λ e. no_header)
turn_at most s headed b =
    choose (Turn most s b headed) (is_space b) _ _ (λ e. first_space e)
    (λ e. choose (Turn most s b headed) (eqb b 10) _ _ (λ e. end_headed (eqb-true b 10 e) (ended s 1)) (λ e. no_count))
turn_at most s padded b =
    choose (Turn most s b padded) (is_space b) _ _ (λ e. next_space e)
    (λ e. choose (Turn most s b padded) (is_digit b) _ _ (λ e. first_count e)
    (λ e. choose (Turn most s b padded) (eqb b 10) _ _ (λ e. end_padded (eqb-true b 10 e) (ended s 1)) (λ e. no_padding)))
turn_at most s counted b =
    choose (Turn most s b counted) (is_digit b) _ _ (λ e. next_count e) (λ e. after_count (betweens most s 1 b))
turn_at most s (ready c) b = at_point (betweens most s c b)
turn_at most s (inside c w) b = in_word (read s c (w ++ (b ∷ [])))
turn_at most s (digits c) b =
    choose (Turn most s b (digits c)) (is_digit b) _ _ (λ e. next_digit e (number most s c _ _)) (λ e. after_name (betweens most s c b))
turn_at most s (comment c) b =
    choose (Turn most s b (comment c)) (eqb b 10) _ _ (λ e. end_comment (eqb-true b 10 e)) (λ e. in_comment e)

pub turn : (most : ℕ) (s : State) (b : ℕ) → Turn most s b s.place (step most s b)
unfolding step
turn most s b = turn_at most s s.place b

-- Each takes one byte.
read_taken : {s : State} {c : ℕ} {w : List ℕ} {z : State} → Read s c w z → z.taken ≡ suc s.taken
unfolding move emit
read_taken (whole n) = refl
read_taken (part e h) = refl
read_taken no_word = refl

number_taken : {most : ℕ} {s z : State} {c n q : ℕ} → Number most s c n q z → z.taken ≡ suc s.taken
unfolding move move_name
number_taken (within_most l) = refl
number_taken too_high = refl

ended_taken : {s : State} {c : ℕ} {z : State} → Ended s c z → z.taken ≡ suc s.taken
unfolding move
ended_taken (line n) = refl
ended_taken (blank h) = refl
ended_taken no_end = refl

between_taken : {most : ℕ} {s z : State} {c b : ℕ} → Between most s c b z → z.taken ≡ suc s.taken
unfolding move
between_taken (by_space h) = refl
between_taken (by_end e r) = ended_taken r
between_taken (by_sharp e h) = refl
between_taken (by_digit h n r) = number_taken r
between_taken (by_word r) = read_taken r

pub turn_taken : {most : ℕ} {s z : State} {b : ℕ} {place : Place} → Turn most s b place z → z.taken ≡ suc s.taken
unfolding move
turn_taken from_dead = refl
turn_taken no_header = refl
turn_taken (in_header e) = refl
turn_taken (end_header e) = refl
turn_taken no_count = refl
turn_taken (first_space h) = refl
turn_taken (end_headed e r) = ended_taken r
turn_taken no_padding = refl
turn_taken (next_space h) = refl
turn_taken (first_count h) = refl
turn_taken (end_padded e r) = ended_taken r
turn_taken (next_count h) = refl
turn_taken (after_count r) = between_taken r
turn_taken (at_point r) = between_taken r
turn_taken (in_word r) = read_taken r
turn_taken (next_digit h r) = number_taken r
turn_taken (after_name r) = between_taken r
turn_taken (in_comment h) = refl
turn_taken (end_comment e) = refl

pub run_taken : (most : ℕ) (s : State) (t : List ℕ) → (run most s t).taken ≡ s.taken + length t
unfolding run
run_taken most s [] = omega arith
run_taken most s (b ∷ t) = omega (arith, run_taken most (step most s b) t, turn_taken (turn most s b))
