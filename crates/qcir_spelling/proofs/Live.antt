-- Every text that does not lead to the dead place is the beginning of a file; one that does is not.
-- Assumes nothing.
use mathlib.Core.Path.{◌≡◌, refl, sym, ◌∙◌, ap, subst}
use mathlib.Core.Bool.{Bool, true, false, ◌&&◌, ◌||◌}
use mathlib.Core.List.{List, [], ◌∷◌, ◌++◌, append_assoc, append-nil}
use Prim.Native.Nat.{ℕ, zero, suc, ◌+◌, ◌≤◌, ◌<◌}
use native.Mathlib.Omega.{arith}
use lib.Dec.{eqb}
use lib.ListN.{length, take}
use borrow.Author.Tests.{eqb-true, eq-eqb}
use Rattle.lists.specs.Choice.{pick, pick_yes, and_left, and_right, or_cases, clash, Is, is_true, is_false, look}
use Rattle.lists.specs.Members.{all}
use Rattle.qcir.specs.File.{Name}
use Rattle.qcir.specs.Spelling.{Sign, word, name, newline, is_space, is_digit, is_numeral, value_from, Spelled, end, a_word, a_name, at_line_end, Viable, SpellingFault, at_byte, at_end}
use Rattle.qcir_tokens.specs.Tokens.{Token}
use Rattle.qcir_spelling.specs.Machine.{Arrow, Row, row, row_at, arrow, arrow_of, same, begins, some_begins, point, points, Place, dead, heading, headed, padded, counted, ready, inside, digits, comment, State, start, run, step, step_at, between, end_line, move, move_name, emit, is_done, is_dead, alive, accepts}
use Rattle.qcir_spelling.proofs.Rows.{choose, every, passes, every_arrow, arrow_passes, same_self}
use Rattle.qcir_spelling.proofs.Points.{name_once}
use Rattle.qcir_spelling.proofs.Signs.{line_end, go, after, after_zero}
use Rattle.qcir_spelling.proofs.Turns.{Read, whole, part, no_word, Number, within_most, too_high, Ended, line, blank, no_end, Between, by_space, by_end, by_sharp, by_digit, by_word, Turn, from_dead, no_header, in_header, end_header, no_count, first_space, end_headed, no_padding, next_space, first_count, end_padded, next_count, after_count, at_point, in_word, next_digit, after_name, in_comment, end_comment, turn}
use Rattle.qcir_spelling.proofs.Runs.{st, run_append, is_dead_lem, dead_run}
use Rattle.qcir_spelling.proofs.Words.{solid, word_lettered, word_rest}
use Rattle.qcir_spelling.proofs.Complete.{Open, o_ready, o_digits, reach, stands_done, complete}
use Rattle.qcir_spelling.proofs.Sound.{sound}

-- Signs that lead from a point to the end: a line's end, else a name, else the last word that may come, and so on.
unfoldable last_word : List Arrow → List ℕ
last_word [] = []
last_word (a ∷ []) = a.word
last_word (a ∷ b ∷ rest) = last_word (b ∷ rest)

unfoldable next_sign : Row → Sign
next_sign r =
    pick (eqb r.ended 0) (pick (eqb r.named 0) (word (last_word r.words)) (name (record { number = 1; position = 0 }))) newline

unfoldable finish : ℕ → ℕ → List Sign
finish zero c = []
finish (suc k) c = pick (eqb c 24) [] (next_sign (point c) ∷ finish k (go c (next_sign (point c))))

unfoldable live : ℕ → Bool
live c = eqb (after c (finish 10 c)) 24

unfoldable live_test : ℕ → Row → Bool
live_test c r = every_arrow (λ a. live a.target) r.words && ((eqb r.named 0 || live r.named) && (eqb r.ended 0 || live r.ended))

live_row : (c : ℕ) → live_test c (point c) ≡ true
unfolding live_test live finish next_sign last_word after go line_end every every_arrow points row_at row arrow arrow_of same pick
live_row = passes live_test (λ c. refl) refl

live_words : (c : ℕ) → every_arrow (λ a. live a.target) (point c).words ≡ true
unfolding live_test
live_words c = and_left _ _ (live_row c)

live_word : (c : ℕ) (w : List ℕ) → ((arrow_of w (point c).words).target ≡ 0 → ⊥) → live (arrow_of w (point c).words).target ≡ true
live_word c w n = (arrow_passes (λ a. live a.target) w (point c).words (live_words c) n).0

live_name : (c : ℕ) → ((point c).named ≡ 0 → ⊥) → live (point c).named ≡ true
unfolding live_test
live_name c n =
    or_cases (eqb (point c).named 0) (live (point c).named) (and_left _ _ (and_right (every_arrow (λ a. live a.target) (point c).words) _ (live_row c)))
    (λ e. absurd (n (eqb-true _ 0 e))) (λ e. e)

live_end : (c : ℕ) → ((point c).ended ≡ 0 → ⊥) → live (point c).ended ≡ true
unfolding live_test
live_end c n =
    or_cases (eqb (point c).ended 0) (live (point c).ended)
    (and_right (eqb (point c).named 0 || live (point c).named) _ (and_right (every_arrow (λ a. live a.target) (point c).words) _ (live_row c)))
    (λ e. absurd (n (eqb-true _ 0 e))) (λ e. e)

live_1 : (live 1 ≡ true) × (live 2 ≡ true)
unfolding live finish next_sign last_word after go line_end points row_at row arrow arrow_of same pick
live_1 = (refl, refl)

live_zero : live 0 ≡ true → ⊥
unfolding live
live_zero h =
    let e : after 0 (finish 10 0) ≡ 24 = eqb-true _ 24 h in omega (arith, after_zero (finish 10 0))

-- A text of such signs, each name being 1.
unfoldable bytes : List Sign → List ℕ
bytes [] = []
bytes (word w ∷ ss) = w ++ bytes ss
bytes (name x ∷ ss) = 49 ∷ bytes ss
bytes (newline ∷ ss) = 10 ∷ bytes ss

-- the signs with the names where the text has them, its first byte having position p
unfoldable placed : ℕ → List Sign → List Sign
placed p [] = []
placed p (word w ∷ ss) = word w ∷ placed (p + length w) ss
placed p (name x ∷ ss) = name (record { number = 1; position = p }) ∷ placed (p + 1) ss
placed p (newline ∷ ss) = newline ∷ placed (suc p) ss

placed_after : (c p : ℕ) (ss : List Sign) → after c (placed p ss) ≡ after c ss
unfolding placed after go
placed_after c p [] = refl
placed_after c p (word w ∷ ss) = placed_after (go c (word w)) (p + length w) ss
placed_after c p (name x ∷ ss) = placed_after (go c (name x)) (p + 1) ss
placed_after c p (newline ∷ ss) = placed_after (go c newline) (suc p) ss

spell : (most p : ℕ) (ss : List Sign) → 1 ≤ most → Spelled most p (placed p ss) (bytes ss)
unfolding placed bytes value_from is_numeral all
spell most p [] l = end
spell most p (word w ∷ ss) l = a_word w (spell most (p + length w) ss l)
spell most p (name x ∷ ss) l = a_name (49 ∷ []) refl l (spell most (p + 1) ss l)
spell most p (newline ∷ ss) l = at_line_end (spell most (suc p) ss l)

-- Some bytes lead to the end of a file.
record Finishes (most : ℕ) (s : State) : Type 0 where
  more : List ℕ
  done : is_done (run most s more).place ≡ true

-- bytes that lead to a state that finishes
first : {most : ℕ} {s t : State} (more : List ℕ) → run most s more ≡ t → Finishes most t → Finishes most s
first {most} {s} {t} more e f =
    record {
      more = more ++ f.more;
      done = subst (λ (z : State). is_done z.place ≡ true) (sym (run_append most s more f.more ∙ ap (λ z. run most z f.more) e)) f.done;
    }

finish_open : (most c p : ℕ) (x : Name) (ts : List Token) (place : Place) → ((ss : List Sign) → Open c ss place) → 1 ≤ most → live c ≡ true
    → Finishes most (st place p x ts)
unfolding live
finish_open most c p x ts place o l h =
    let ss : List Sign = finish 10 c in
    let e : after c (placed p ss) ≡ 24 = placed_after c p ss ∙ eqb-true _ 24 h in
    let r = reach (spell most p ss l) c x ts place (o (placed p ss)) (λ z. omega arith) in
    record { more = bytes ss; done = stands_done _ (subst (λ k. Open k [] (run most (st place p x ts) (bytes ss)).place) e r.stands) }

finish_ready : (most c p : ℕ) (x : Name) (ts : List Token) → 1 ≤ most → live c ≡ true → Finishes most (st (ready c) p x ts)
finish_ready most c p x ts l h = finish_open most c p x ts (ready c) (λ ss. o_ready) l h

-- Within a word.
begins_split : (w u : List ℕ) → begins w u ≡ true → (v : List ℕ) × (u ≡ w ++ v)
unfolding begins
begins_split [] u h = (u, refl)
begins_split (b ∷ w) [] h = clash h refl
begins_split (b ∷ w) (d ∷ u) h =
    let r = begins_split w u (and_right (eqb b d) _ h) in
    let e : b ≡ d = eqb-true b d (and_left _ _ h) in (r.0, ap (λ z. d ∷ z) r.1 ∙ ap (λ i. i ∷ (w ++ r.0)) (sym e))

word_begun : (w : List ℕ) (arrows : List Arrow) → every_arrow (λ a. live a.target) arrows ≡ true → some_begins w arrows ≡ true
    → (v : List ℕ) × ((arrow_of (w ++ v) arrows).target ≡ 0 → ⊥)
unfolding every_arrow some_begins arrow_of
word_begun w [] h k = clash k refl
word_begun w (a ∷ rest) h k =
    let lives : a.target ≡ 0 → ⊥ = λ e. live_zero (subst (λ i. live i ≡ true) e (and_left _ _ h)) in
    let later = word_begun w rest (and_right (live a.target) _ h) in
    or_cases (begins w a.word) (some_begins w rest) k
    (λ e.
    let r = begins_split w a.word e in (
      r.0,
      subst (λ u. (pick (same u a.word) a (arrow_of u rest)).target ≡ 0 → ⊥) r.1
          (subst (λ (b : Arrow). b.target ≡ 0 → ⊥) (sym (pick_yes _ a (arrow_of a.word rest) (same_self a.word))) lives),
    ))
    (λ e.
    let r = later e in
    (r.0, choose (λ (b : Arrow). b.target ≡ 0 → ⊥) (same (w ++ r.0) a.word) a (arrow_of (w ++ r.0) rest) (λ q. lives) (λ q. r.1)))

solid_part : (arrows : List Arrow) (u w : List ℕ) (b : ℕ) (v : List ℕ) → solid arrows u (w ++ (b ∷ v)) ≡ true → solid arrows (u ++ w) (b ∷ v) ≡ true
unfolding solid
solid_part arrows u [] b v h = subst (λ z. solid arrows z (b ∷ v) ≡ true) (sym (append-nil u)) h
solid_part arrows u (x ∷ []) b v h = and_right (eqb (arrow_of (u ++ (x ∷ [])) arrows).target 0) _ h
solid_part arrows u (x ∷ y ∷ w) b v h =
    subst (λ z. solid arrows z (b ∷ v) ≡ true) (append_assoc u (x ∷ []) (y ∷ w))
    (solid_part arrows (u ++ (x ∷ [])) (y ∷ w) b v (and_right (eqb (arrow_of (u ++ (x ∷ [])) arrows).target 0) _ h))

finish_word : (most c p : ℕ) (x : Name) (ts : List Token) (w v : List ℕ) → 1 ≤ most → (arrow_of w (point c).words).target ≡ 0
    → ((arrow_of (w ++ v) (point c).words).target ≡ 0 → ⊥) → Finishes most (st (inside c w) p x ts)
unfolding run step step_at
finish_word most c p x ts w [] l z n = absurd (n (ap (λ u. (arrow_of u (point c).words).target) (append-nil w) ∙ z))
finish_word most c p x ts w (b ∷ v) l z n =
    first (b ∷ v)
    (word_rest most c (inside c w) p x ts w b v (solid_part (point c).words [] w b v (word_lettered c (w ++ (b ∷ v)) n).1) n)
    (finish_ready most _ _ x _ l (live_word c (w ++ (b ∷ v)) n))

-- Places from which a file can be finished.
unfoldable Good : Place → Type 0
Good dead = ⊥
Good (heading []) = ⊥
Good (heading (h ∷ hs)) = Unit {0}
Good headed = Unit {0}
Good padded = Unit {0}
Good counted = Unit {0}
Good (ready c) = live c ≡ true
Good (inside c w) = (some_begins w (point c).words ≡ true) × ((arrow_of w (point c).words).target ≡ 0)
Good (digits c) = (live c ≡ true) × ((point c).named ≡ 0)
Good (comment c) = live c ≡ true

end_first : (p : ℕ) (x : Name) (ts : List Token) (place : Place) → end_line (st place p x ts) 1 ≡ st (ready 2) (suc p) x ts
unfolding end_line move points row_at row pick
end_first p x ts place = refl

finish_headed : (most p : ℕ) (x : Name) (ts : List Token) → 1 ≤ most → Finishes most (st headed p x ts)
unfolding run step step_at is_space pick
finish_headed most p x ts l = first (10 ∷ []) (end_first p x ts headed) (finish_ready most 2 (suc p) x ts l live_1.1)

finish_heading : (most p : ℕ) (x : Name) (ts : List Token) (h : ℕ) (hs : List ℕ) → 1 ≤ most → Finishes most (st (heading (h ∷ hs)) p x ts)
unfolding run step step_at move
finish_heading most p x ts h [] l = first (h ∷ []) (pick_yes _ _ _ (eq-eqb h h refl)) (finish_headed most (suc p) x ts l)
finish_heading most p x ts h (i ∷ hs) l = first (h ∷ []) (pick_yes _ _ _ (eq-eqb h h refl)) (finish_heading most (suc p) x ts i hs l)

finish_good : (most p : ℕ) (x : Name) (ts : List Token) (place : Place) → 1 ≤ most → Good place → Finishes most (st place p x ts)
unfolding Good run step step_at between is_space is_digit pick move
finish_good most p x ts dead l g = absurd g
finish_good most p x ts (heading []) l g = absurd g
finish_good most p x ts (heading (h ∷ hs)) l g = finish_heading most p x ts h hs l
finish_good most p x ts headed l g = finish_headed most p x ts l
finish_good most p x ts padded l g = first (10 ∷ []) (end_first p x ts padded) (finish_ready most 2 (suc p) x ts l live_1.1)
finish_good most p x ts counted l g = first (10 ∷ []) (end_first p x ts counted) (finish_ready most 2 (suc p) x ts l live_1.1)
finish_good most p x ts (ready c) l g = finish_ready most c p x ts l g
finish_good most p x ts (inside c w) l g =
    let r = word_begun w (point c).words (live_words c) g.0 in finish_word most c p x ts w r.0 l g.1 r.1
finish_good most p x ts (digits c) l g = finish_open most c p x ts (digits c) (λ ss. o_digits g.1) l g.0
finish_good most p x ts (comment c) l g = first (10 ∷ []) refl (finish_ready most c (suc p) x ts l g)

-- A step from a good place leads to a good place or to the dead place.
abbrev Kept : State → Type 0
Kept z = is_dead z.place ≡ false → Good z.place

read_good : {s : State} {c : ℕ} {w : List ℕ} {z : State} → Read s c w z → Kept z
unfolding Good is_dead move emit
read_good {c = c} {w = w} (whole n) d = live_word c w n
read_good (part e h) d = (h, e)
read_good no_word d = clash refl d

number_good : {most : ℕ} {s z : State} {c n q : ℕ} → live c ≡ true → (point c).named ≡ 0 → Number most s c n q z → Kept z
unfolding Good is_dead move move_name
number_good l e (within_most h) d = (l, e)
number_good l e too_high d = clash refl d

ended_good : {s : State} {c : ℕ} {z : State} → live c ≡ true → Ended s c z → Kept z
unfolding Good is_dead move
ended_good {c = c} l (line n) d = live_end c n
ended_good l (blank h) d = l
ended_good l no_end d = clash refl d

between_good : {most : ℕ} {s z : State} {c b : ℕ} → live c ≡ true → Between most s c b z → Kept z
unfolding Good move
between_good l (by_space h) d = l
between_good l (by_end e r) d = ended_good l r d
between_good l (by_sharp e h) d = l
between_good {c = c} l (by_digit h n r) d = number_good (live_name c n) (name_once c n).0 r d
between_good l (by_word r) d = read_good r d

turn_good : {most : ℕ} {s z : State} {b : ℕ} {place : Place} → Turn most s b place z → Good place → Kept z
unfolding Good is_dead move
turn_good from_dead g d = absurd g
turn_good no_header g d = clash refl d
turn_good (in_header e) g d = tt
turn_good (end_header e) g d = tt
turn_good no_count g d = clash refl d
turn_good (first_space h) g d = tt
turn_good (end_headed e r) g d = ended_good live_1.0 r d
turn_good no_padding g d = clash refl d
turn_good (next_space h) g d = tt
turn_good (first_count h) g d = tt
turn_good (end_padded e r) g d = ended_good live_1.0 r d
turn_good (next_count h) g d = tt
turn_good (after_count r) g d = between_good live_1.0 r d
turn_good (at_point r) g d = between_good g r d
turn_good (in_word r) g d = read_good r d
turn_good (next_digit h r) g d = number_good g.0 g.1 r d
turn_good (after_name r) g d = between_good g.0 r d
turn_good (in_comment h) g d = g
turn_good (end_comment e) g d = g

stays_dead : (most : ℕ) (s : State) (t : List ℕ) → is_dead s.place ≡ true → is_dead (run most s t).place ≡ true
unfolding is_dead
stays_dead most s t h = ap is_dead (dead_run most s t (is_dead_lem s.place h))

not_done : (place : Place) → is_dead place ≡ true → is_done place ≡ true → ⊥
unfolding is_dead is_done
not_done dead h d = clash d refl
not_done (heading hs) h d = clash h refl
not_done headed h d = clash h refl
not_done padded h d = clash h refl
not_done counted h d = clash h refl
not_done (ready c) h d = clash h refl
not_done (inside c w) h d = clash h refl
not_done (digits c) h d = clash h refl
not_done (comment c) h d = clash h refl

run_good : (most : ℕ) (s : State) (t : List ℕ) → Good s.place → Kept (run most s t)
unfolding run
run_good most s [] g d = g
run_good most s (b ∷ t) g d = by (look (is_dead (step most s b).place)) (run_good most (step most s b) t)
  where
    by : Is (is_dead (step most s b).place) → (Good (step most s b).place → Kept (run most (step most s b) t)) → Good (run most (step most s b) t).place
    by (is_true e) next = clash (stays_dead most (step most s b) t e) d
    by (is_false e) next = next (turn_good (turn most s b) g e) d

stays_24 : (most : ℕ) (s : State) → is_done (step_at most s (ready 24) 10).place ≡ true
unfolding step_at between end_line is_space move is_done points row_at row pick
stays_24 most s = refl

-- At the start of a line after the output line LF changes nothing.
done_stays : (most : ℕ) (s : State) (place : Place) → is_done place ≡ true → is_done (step_at most s place 10).place ≡ true
unfolding is_done
done_stays most s dead h = clash h refl
done_stays most s (heading hs) h = clash h refl
done_stays most s headed h = clash h refl
done_stays most s padded h = clash h refl
done_stays most s counted h = clash h refl
done_stays most s (ready c) h = subst (λ k. is_done (step_at most s (ready k) 10).place ≡ true) (sym (eqb-true c 24 h)) (stays_24 most s)
done_stays most s (inside c w) h = clash h refl
done_stays most s (digits c) h = clash h refl
done_stays most s (comment c) h = clash h refl

good_start : Good start.place
unfolding Good start
good_start = tt

-- A text that leads to no dead place is the beginning of a file.
pub viable : (most : ℕ) (text : List ℕ) → 1 ≤ most → is_dead (run most start text).place ≡ false → Viable most text
unfolding accepts step
viable most text l d =
    let s : State = run most start text in
    let f : Finishes most s = finish_good most s.taken s.pending s.tokens s.place l (run_good most start text good_start d) in
    let e : is_done (run most start (text ++ f.more)).place ≡ true =
    subst (λ (z : State). is_done z.place ≡ true) (sym (run_append most start text f.more)) f.done in
    let r = sound most (text ++ f.more) (done_stays most (run most start (text ++ f.more)) _ e) in
    record { more = f.more; file = r.file; spells = r.spells }

pub not_viable : (most : ℕ) (text : List ℕ) → is_dead (run most start text).place ≡ true → Viable most text → ⊥
unfolding accepts run
not_viable most text d v =
    let s : State = run most start (text ++ v.more) in
    let e : is_dead s.place ≡ true =
    subst (λ (z : State). is_dead z.place ≡ true) (sym (run_append most start text v.more)) (stays_dead most (run most start text) v.more d) in
    let gone : is_dead (step most s 10).place ≡ true = stays_dead most s (10 ∷ []) e in
    not_done (step most s 10).place gone (complete v.spells).0

-- Where the machine stops.
data Stopped (most : ℕ) (s : State) (t : List ℕ) : ℕ → Type 0 where
  not_stopped : is_dead (run most s t).place ≡ false → Stopped most s t (length t)
  stopped_at : (n : ℕ) → n < length t → is_dead (run most s (take n t)).place ≡ false → is_dead (run most s (take (suc n) t)).place ≡ true → Stopped most s t n

stopped_later : (most : ℕ) (s : State) (b : ℕ) (t : List ℕ) {n : ℕ} → Stopped most (step most s b) t n → Stopped most s (b ∷ t) (suc n)
unfolding run
stopped_later most s b t (not_stopped h) = not_stopped h
stopped_later most s b t (stopped_at n l h k) = stopped_at (suc n) (omega arith) h k

stopped : (most : ℕ) (s : State) (t : List ℕ) → is_dead s.place ≡ false → Stopped most s t (alive most s t)
unfolding alive run
stopped most s [] h = not_stopped h
stopped most s (b ∷ t) h =
    let later = stopped most (step most s b) t in
    choose (Stopped most s (b ∷ t)) (is_dead (step most s b).place) _ _ (λ e. stopped_at 0 (omega arith) h e) (λ e. stopped_later most s b t (later e))

refused_at : (most : ℕ) (text : List ℕ) {n : ℕ} → 1 ≤ most → accepts most text ≡ false → Stopped most start text n → SpellingFault most text n
refused_at most text l a (not_stopped h) = at_end (viable most text l h) (λ f s. clash (complete s).0 a)
refused_at most text l a (stopped_at n k h d) = at_byte n k (viable most (take n text) l h) (not_viable most (take (suc n) text) d)

start_alive : is_dead start.place ≡ false
unfolding start is_dead
start_alive = refl

pub refused : (most : ℕ) (text : List ℕ) → 1 ≤ most → accepts most text ≡ false → SpellingFault most text (alive most start text)
refused most text l a = refused_at most text l a (stopped most start text start_alive)
