-- Runs of the machine: the bytes taken, a dead machine, and a first byte of a word.
-- Assumes nothing.
use mathlib.Core.Path.{◌≡◌, refl, ◌∙◌, ap}
use mathlib.Core.Bool.{Bool, true, false, not, ◌&&◌}
use mathlib.Core.List.{List, [], ◌∷◌, ◌++◌}
use Prim.Native.Nat.{ℕ, ◌≤◌}
use native.Mathlib.Omega.{arith}
use lib.Dec.{eqb, leb}
use borrow.Author.Tests.{leb-true, le-leb, not-true}
use Rattle.lists.specs.Choice.{pick_no, and_left, and_right, and_both, absent, clash}
use Rattle.qcir.specs.File.{Name}
use Rattle.qcir.specs.Spelling.{is_space, is_digit}
use Rattle.qcir_tokens.specs.Tokens.{Token}
use Rattle.qcir_spelling.specs.Machine.{Place, dead, heading, headed, padded, counted, ready, inside, digits, comment, State, run, step, step_at, move, between, read_word, point, is_dead}

-- a state by its parts
abbrev pub st : Place → ℕ → Name → List Token → State
st place p x ts = record { place = place; taken = p; pending = x; tokens = ts }

-- the last name where none has been read
unfoldable pub no_name : Name
no_name = record { number = 0; position = 0 }

pub run_append : (most : ℕ) (s : State) (a b : List ℕ) → run most s (a ++ b) ≡ run most (run most s a) b
unfolding run
run_append most s [] b = refl
run_append most s (x ∷ a) b = run_append most (step most s x) a b

-- A dead machine stays dead.
pub is_dead_lem : (p : Place) → is_dead p ≡ true → p ≡ dead
unfolding is_dead
is_dead_lem dead h = refl
is_dead_lem (heading hs) h = clash h refl
is_dead_lem headed h = clash h refl
is_dead_lem padded h = clash h refl
is_dead_lem counted h = clash h refl
is_dead_lem (ready c) h = clash h refl
is_dead_lem (inside c w) h = clash h refl
is_dead_lem (digits c) h = clash h refl
is_dead_lem (comment c) h = clash h refl

pub dead_step : (most : ℕ) (s : State) (b : ℕ) → s.place ≡ dead → (step most s b).place ≡ dead
unfolding step step_at move
dead_step most s b h = ap (λ p. (step_at most s p b).place) h

pub dead_run : (most : ℕ) (s : State) (t : List ℕ) → s.place ≡ dead → (run most s t).place ≡ dead
unfolding run
dead_run most s [] h = h
dead_run most s (b ∷ t) h = dead_run most (step most s b) t (dead_step most s b h)

-- A byte that is no space, no line's end, no comment's sign and no digit belongs to a word.
unfoldable pub plain : ℕ → Bool
plain b = not (is_space b) && (not (eqb b 10) && (not (eqb b 35) && not (is_digit b)))

no_digit : (b : ℕ) (t : Bool) → is_digit b ≡ false → ((leb 49 b && leb b 57) && t) ≡ false
unfolding is_digit
no_digit b t h =
    absent _ (λ e.
    let both : (leb 49 b && leb b 57) ≡ true = and_left (leb 49 b && leb b 57) t e in
    let low : 49 ≤ b = leb-true 49 b (and_left (leb 49 b) _ both) in
    clash (and_both _ _ (le-leb 48 b (omega arith)) (and_right (leb 49 b) _ both)) h)

pub between_word : (most : ℕ) (s : State) (c b : ℕ) → plain b ≡ true → between most s c b ≡ read_word s c (b ∷ [])
unfolding plain between
between_word most s c b h =
    let space : is_space b ≡ false = not-true _ (and_left (not (is_space b)) _ h) in
    let rest = and_right (not (is_space b)) _ h in
    let line : eqb b 10 ≡ false = not-true _ (and_left (not (eqb b 10)) _ rest) in
    let rest' = and_right (not (eqb b 10)) _ rest in
    let sign : eqb b 35 ≡ false = not-true _ (and_left (not (eqb b 35)) _ rest') in
    let digit : is_digit b ≡ false = not-true _ (and_right (not (eqb b 35)) _ rest') in
    pick_no _ _ _ space ∙ pick_no _ _ _ line
    ∙ pick_no _ _ _ (absent _ (λ e. clash (and_left (eqb b 35) _ e) sign))
    ∙ pick_no _ _ _ (no_digit b (not (eqb (point c).named 0)) digit)

pub plain_digit : (b : ℕ) → plain b ≡ true → is_digit b ≡ false
unfolding plain
plain_digit b h =
    not-true _ (and_right (not (eqb b 35)) _ (and_right (not (eqb b 10)) _ (and_right (not (is_space b)) _ h)))
