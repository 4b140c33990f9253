-- The header: how the machine takes it.
-- Assumes nothing.
use mathlib.Core.Bool.{true, false}
use mathlib.Core.List.{List, [], ◌∷◌}
use mathlib.Core.Path.{◌≡◌, refl, sym, ◌∙◌, ap}
use Prim.Native.Nat.{ℕ, suc, ◌+◌, ◌≤◌, ◌<◌}
use native.Mathlib.Nat.{zero-add}
use native.Mathlib.Omega.{arith}
use lib.Dec.{eqb}
use lib.ListN.{length, take, drop}
use borrow.Author.Tests.{eq-eqb, ne_eqb, eqb-true, eqb-false}
use Rattle.lists.specs.Choice.{pick, pick_yes, pick_no, Is, is_true, is_false, look}
use Rattle.qcir.specs.Spelling.{header}
use Rattle.qcir_spelling.specs.Machine.{Place, dead, heading, headed, State, start, move, step_at, step, run, is_dead, is_done, alive, accepts}
use Rattle.qcir_header.specs.Header.{common, header_end}
use Rattle.qcir_header.proofs.Common.{common_none, common_yes, common_no, common_header, common_text}
use Rattle.qcir_spelling.proofs.Runs.{dead_step, dead_run}

-- The place where these bytes of the header are still to come.
unfoldable awaiting : List ℕ → Place
awaiting [] = headed
awaiting (h ∷ hs) = heading (h ∷ hs)

-- The state there, after so many bytes.
unfoldable awaiting_at : List ℕ → ℕ → State
awaiting_at hs n =
    record { place = awaiting hs; taken = n; pending = record { number = 0; position = 0 }; tokens = [] }

lives_awaiting : (hs : List ℕ) → is_dead (awaiting hs) ≡ false
unfolding awaiting is_dead
lives_awaiting [] = refl
lives_awaiting (h ∷ hs) = refl

undone_awaiting : (hs : List ℕ) → is_done (awaiting hs) ≡ false
unfolding awaiting is_done
undone_awaiting [] = refl
undone_awaiting (h ∷ hs) = refl

module _ (most : ℕ) where
  head_step : (h : ℕ) (hs : List ℕ) (n b : ℕ) → step most (awaiting_at (h ∷ hs) n) b ≡ pick (eqb b h) (awaiting_at hs (suc n)) (move (awaiting_at (h ∷ hs) n) dead)
  unfolding step step_at awaiting_at awaiting move
  head_step h [] n b = refl
  head_step h (i ∷ hs) n b = refl

  module _ (h : ℕ) (hs : List ℕ) (n b : ℕ) where
    head_on : eqb h b ≡ true → step most (awaiting_at (h ∷ hs) n) b ≡ awaiting_at hs (suc n)
    head_on t = head_step h hs n b ∙ pick_yes _ _ _ (eq-eqb _ _ (sym (eqb-true h b t)))

    head_off : eqb h b ≡ false → (step most (awaiting_at (h ∷ hs) n) b).place ≡ dead
    unfolding move
    head_off t = ap (λ s. s.place) (head_step h hs n b ∙ pick_no _ _ _ (ne_eqb _ _ (λ e. eqb-false h b t (sym e))))

module _ (most : ℕ) where
  -- a text with the whole header
  whole_run : (hs text : List ℕ) (n : ℕ) → length hs ≤ common hs text → run most (awaiting_at hs n) (take (length hs) text) ≡ awaiting_at [] (n + length hs)
  unfolding run
  whole_run [] text n l = ap (awaiting_at []) (omega arith)
  whole_run (h ∷ hs) [] n l = absurd (omega (arith, common_none (h ∷ hs)))
  whole_run (h ∷ hs) (b ∷ t) n l = by (look (eqb h b)) (whole_run hs t (suc n))
    where
      by : Is (eqb h b) → (length hs ≤ common hs t → run most (awaiting_at hs (suc n)) (take (length hs) t) ≡ awaiting_at [] (suc n + length hs)) → run most (step most (awaiting_at (h ∷ hs) n) b) (take (length hs) t) ≡ awaiting_at [] (n + suc (length hs))
      by (is_true y) on =
          let e = common_yes h b hs t y in
          ap (λ s. run most s (take (length hs) t)) (head_on most h hs n b y) ∙ on (omega arith) ∙ ap (awaiting_at []) (omega arith)
      by (is_false y) on = absurd (omega (arith, common_no h b hs t y))

  -- one byte of it
  alive_on : (h b : ℕ) (hs t : List ℕ) (n : ℕ) → eqb h b ≡ true → alive most (awaiting_at (h ∷ hs) n) (b ∷ t) ≡ suc (alive most (awaiting_at hs (suc n)) t)
  unfolding alive awaiting_at
  alive_on h b hs t n y =
      let e : step most (awaiting_at (h ∷ hs) n) b ≡ awaiting_at hs (suc n) = head_on most h hs n b y in
      pick_no _ _ _ (ap (λ s. is_dead s.place) e ∙ lives_awaiting hs) ∙ ap (λ s. suc (alive most s t)) e

  whole_alive : (hs text : List ℕ) (n : ℕ) → length hs ≤ common hs text → alive most (awaiting_at hs n) text ≡ length hs + alive most (awaiting_at [] (n + length hs)) (drop (length hs) text)
  whole_alive [] text n l =
      let e : n ≡ n + 0 = omega arith in
      ap (λ k. alive most (awaiting_at [] k) text) e ∙ sym (zero-add (alive most (awaiting_at [] (n + 0)) text))
  whole_alive (h ∷ hs) [] n l = absurd (omega (arith, common_none (h ∷ hs)))
  whole_alive (h ∷ hs) (b ∷ t) n l = by (look (eqb h b)) (whole_alive hs t (suc n))
    where
      by : Is (eqb h b) → (length hs ≤ common hs t → alive most (awaiting_at hs (suc n)) t ≡ length hs + alive most (awaiting_at [] (suc n + length hs)) (drop (length hs) t)) → alive most (awaiting_at (h ∷ hs) n) (b ∷ t) ≡ suc (length hs) + alive most (awaiting_at [] (n + suc (length hs))) (drop (length hs) t)
      by (is_true y) on =
          let e = common_yes h b hs t y in
          let k : suc n + length hs ≡ n + suc (length hs) = omega arith in
          let r : alive most (awaiting_at hs (suc n)) t ≡ length hs + alive most (awaiting_at [] (n + suc (length hs))) (drop (length hs) t) = rw k at (on (omega arith)) in
          omega (arith, alive_on h b hs t n y)
      by (is_false y) on = absurd (omega (arith, common_no h b hs t y))

  -- a text without it lives as long as it has the header's bytes
  short_alive : (hs text : List ℕ) (n : ℕ) → common hs text < length hs → alive most (awaiting_at hs n) text ≡ common hs text
  unfolding alive is_dead
  short_alive [] text n l = absurd (omega arith)
  short_alive (h ∷ hs) [] n l = sym (common_none (h ∷ hs))
  short_alive (h ∷ hs) (b ∷ t) n l = by (look (eqb h b)) (short_alive hs t (suc n))
    where
      by : Is (eqb h b) → (common hs t < length hs → alive most (awaiting_at hs (suc n)) t ≡ common hs t) → alive most (awaiting_at (h ∷ hs) n) (b ∷ t) ≡ common (h ∷ hs) (b ∷ t)
      by (is_true y) on =
          let e = common_yes h b hs t y in
          let r = on (omega arith) in
          omega (arith, alive_on h b hs t n y)
      by (is_false y) on = pick_yes _ _ _ (ap is_dead (head_off most h hs n b y)) ∙ sym (common_no h b hs t y)

  -- and is no file
  short_refused : (hs text : List ℕ) (n : ℕ) → common hs text < length hs → is_done (step most (run most (awaiting_at hs n) text) 10).place ≡ false
  unfolding run is_done awaiting_at
  short_refused [] text n l = absurd (omega arith)
  short_refused (h ∷ hs) [] n l = by (look (eqb h 10))
    where
      by : Is (eqb h 10) → is_done (step most (awaiting_at (h ∷ hs) n) 10).place ≡ false
      by (is_true y) = ap (λ s. is_done s.place) (head_on most h hs n 10 y) ∙ undone_awaiting hs
      by (is_false y) = ap is_done (head_off most h hs n 10 y)
  short_refused (h ∷ hs) (b ∷ t) n l = by (look (eqb h b)) (short_refused hs t (suc n))
    where
      by : Is (eqb h b) → (common hs t < length hs → is_done (step most (run most (awaiting_at hs (suc n)) t) 10).place ≡ false) → is_done (step most (run most (step most (awaiting_at (h ∷ hs) n) b) t) 10).place ≡ false
      by (is_true y) on =
          let e = common_yes h b hs t y in
          ap (λ s. is_done (step most (run most s t) 10).place) (head_on most h hs n b y) ∙ on (omega arith)
      by (is_false y) on =
          ap is_done (dead_step most (run most (step most (awaiting_at (h ∷ hs) n) b) t) 10 (dead_run most (step most (awaiting_at (h ∷ hs) n) b) t (head_off most h hs n b y)))

-- A text from its start on.
module _ (most : ℕ) (text : List ℕ) (at : ℕ) (is : at ≡ header_end text 0) where
  here : at ≡ common header text
  unfolding header_end
  here = omega arith

  -- right after the header
  module _ (l : 9 ≤ at) where
    pub at_header : at ≡ 9
    at_header = let h = here in omega (arith, common_header header text)

    pub header_within : at ≤ length text
    header_within = let h = here in omega (arith, common_text header text)

    pub header_run : run most start (take 9 text) ≡ record { place = headed; taken = 9; pending = record { number = 0; position = 0 }; tokens = [] }
    unfolding start awaiting_at awaiting
    header_run = let h = here in whole_run most header text 0 (omega arith)

    pub header_alive : alive most start text ≡ 9 + alive most (run most start (take 9 text)) (drop 9 text)
    unfolding start awaiting_at awaiting
    header_alive =
        let h = here in
        whole_alive most header text 0 (omega arith) ∙ ap (λ s. 9 + alive most s (drop 9 text)) (sym header_run)

  -- a header that is wrong, or cut short
  module _ (l : at < 9) where
    pub short_position : at ≡ alive most start text
    unfolding start awaiting_at awaiting
    short_position = let h = here in h ∙ sym (short_alive most header text 0 (omega arith))

    pub short_spelled : accepts most text ≡ false
    unfolding accepts start awaiting_at awaiting
    short_spelled = let h = here in short_refused most header text 0 (omega arith)
