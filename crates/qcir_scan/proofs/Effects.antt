-- What a step of the machine does, apart from the numbers that its state holds: where it goes, the role in which it ends the pending
-- name (0: none), and whether the byte is a name's first digit (1), a further digit (2) or none (0).
-- Assumes nothing.
use mathlib.Core.Bool.{Bool, true, false, not, ◌&&◌}
use mathlib.Core.List.{List, [], ◌∷◌, ◌++◌}
use mathlib.Core.Path.{◌≡◌, refl}
use Prim.Native.Nat.{ℕ, ◌+◌, ◌*◌, ◌-◌}
use lib.Dec.{eqb, leb}
use Rattle.lists.specs.Choice.{pick}
use Rattle.qcir.specs.Spelling.{is_space, is_digit}
use Rattle.qcir_spelling.specs.Machine.{Place, dead, heading, headed, padded, counted, ready, inside, digits, comment, State, point, arrow_of, some_begins, move, move_name, emit, read_word, end_line, read_digit, between, step_at}

pub record Effect : Type 0 where
  pub place : Place
  pub role : ℕ
  pub digit : ℕ

abbrev pub go : Place → ℕ → Effect
go p role = record { place = p; role = role; digit = 0 }

abbrev pub digit_to : Place → ℕ → Effect
digit_to p digit = record { place = p; role = 0; digit = digit }

unfoldable pub word_effect : ℕ → List ℕ → Effect
word_effect c w =
    let a = arrow_of w (point c).words in
    pick (eqb a.target 0)
    (pick (some_begins w (point c).words) (go (inside c w) 0) (go dead 0))
    (go (ready a.target) a.role)

unfoldable pub end_effect : ℕ → Effect
end_effect c = pick (eqb (point c).ended 0) (pick (point c).starts (go (ready c) 0) (go dead 0)) (go (ready (point c).ended) 0)

unfoldable pub between_effect : ℕ → ℕ → Effect
between_effect c b =
    pick (is_space b) (go (ready c) 0)
    (pick (eqb b 10) (end_effect c)
    (pick (eqb b 35 && (point c).starts) (go (comment c) 0)
    (pick (leb 49 b && leb b 57 && not (eqb (point c).named 0)) (digit_to (digits (point c).named) 1)
    (word_effect c (b ∷ [])))))

unfoldable pub effect_at : Place → ℕ → Effect
effect_at dead b = go dead 0
effect_at (heading []) b = go dead 0
effect_at (heading (h ∷ [])) b = pick (eqb b h) (go headed 0) (go dead 0)
effect_at (heading (h ∷ i ∷ hs)) b = pick (eqb b h) (go (heading (i ∷ hs)) 0) (go dead 0)
effect_at headed b = pick (is_space b) (go padded 0) (pick (eqb b 10) (end_effect 1) (go dead 0))
effect_at padded b = pick (is_space b) (go padded 0) (pick (is_digit b) (go counted 0) (pick (eqb b 10) (end_effect 1) (go dead 0)))
effect_at counted b = pick (is_digit b) (go counted 0) (between_effect 1 b)
effect_at (ready c) b = between_effect c b
effect_at (inside c w) b = word_effect c (w ++ (b ∷ []))
effect_at (digits c) b = pick (is_digit b) (digit_to (digits c) 2) (between_effect c b)
effect_at (comment c) b = pick (eqb b 10) (go (ready c) 0) (go (comment c) 0)

-- One byte more, which makes n the number of the pending name, if names may be so high.
unfoldable pub with_number : ℕ → State → Place → ℕ → ℕ → State
with_number most s p n position = pick (leb n most) (move_name s p (record { number = n; position = position })) (move s dead)

-- The state after a step with this effect.
unfoldable pub apply : ℕ → State → ℕ → Effect → State
apply most s b f =
    pick (eqb f.digit 0)
    (emit s f.place f.role)
    (with_number most s f.place
    (pick (eqb f.digit 1) (b - 48) (10 * s.pending.number + (b - 48)))
    (pick (eqb f.digit 1) s.taken s.pending.position))

-- x is the state after a step with effect f.
record Does (most : ℕ) (s : State) (b : ℕ) (x : State) (f : Effect) : Type 0 where
  is : x ≡ apply most s b f

module _ {most : ℕ} {s : State} {b : ℕ} where
  moved : {p : Place} → Does most s b (move s p) (go p 0)
  unfolding move apply emit pick
  moved = record { is = refl }

  emitted : {p : Place} {role : ℕ} → Does most s b (emit s p role) (go p role)
  unfolding apply pick
  emitted = record { is = refl }

  began : {c : ℕ} → Does most s b (read_digit most s c (b - 48) s.taken) (digit_to (digits c) 1)
  unfolding read_digit with_number apply pick
  began = record { is = refl }

  went_on : {c : ℕ} → Does most s b (read_digit most s c (10 * s.pending.number + (b - 48)) s.pending.position) (digit_to (digits c) 2)
  unfolding read_digit with_number apply pick
  went_on = record { is = refl }

  choose : (t : Bool) {x y : State} {f g : Effect} → Does most s b x f → Does most s b y g → Does most s b (pick t x y) (pick t f g)
  unfolding pick
  choose true p q = p
  choose false p q = q

  word_step : (c : ℕ) (w : List ℕ) → Does most s b (read_word s c w) (word_effect c w)
  unfolding read_word word_effect
  word_step c w = choose _ (choose _ moved moved) emitted

  end_step : (c : ℕ) → Does most s b (end_line s c) (end_effect c)
  unfolding end_line end_effect
  end_step c = choose _ (choose _ moved moved) moved

  between_step : (c : ℕ) → Does most s b (between most s c b) (between_effect c b)
  unfolding between between_effect
  between_step c = choose _ moved (choose _ (end_step c) (choose _ moved (choose _ began (word_step c (b ∷ [])))))

  steps : (p : Place) → Does most s b (step_at most s p b) (effect_at p b)
  unfolding step_at effect_at
  steps dead = moved
  steps (heading []) = moved
  steps (heading (h ∷ [])) = choose _ moved moved
  steps (heading (h ∷ i ∷ hs)) = choose _ moved moved
  steps headed = choose _ moved (choose _ (end_step 1) moved)
  steps padded = choose _ moved (choose _ moved (choose _ (end_step 1) moved))
  steps counted = choose _ moved (between_step 1)
  steps (ready c) = between_step c
  steps (inside c w) = word_step c (w ++ (b ∷ []))
  steps (digits c) = choose _ went_on (between_step c)
  steps (comment c) = choose _ moved moved

-- each step has its effect
pub step_effect : (most : ℕ) (s : State) (b : ℕ) (p : Place) → step_at most s p b ≡ apply most s b (effect_at p b)
step_effect most s b p = (steps p).is
