-- What spells the signs of a file is accepted, and its tokens are the file's.
-- Assumes nothing.
use mathlib.Core.Path.{◌≡◌, refl, sym, ◌∙◌, ap, subst}
use mathlib.Core.Bool.{Bool, true, false, not, ◌&&◌}
use mathlib.Core.List.{List, [], ◌∷◌, ◌++◌, append_assoc, append-nil}
use Prim.Native.Nat.{ℕ, suc, ◌+◌, ◌*◌, ◌-◌, ◌≤◌}
use native.Mathlib.Omega.{arith}
use lib.Dec.{eqb, leb}
use lib.ListN.{length}
use borrow.Author.Tests.{eqb-true, eqb-false, eq-eqb, ne_eqb, leb-true, le-leb, lt-leb}
use Rattle.lists.specs.Choice.{pick, pick_yes, pick_no, and_left, and_right, and_both, or_cases, or_neither, or_neither_left, or_neither_right, and_off_left, clash, Is, is_true, is_false, look}
use Rattle.lists.specs.Members.{mem, all}
use Rattle.qcir.specs.File.{Name, File}
use Rattle.qcir.specs.Spelling.{Sign, word, name, newline, is_space, is_digit, is_numeral, value_from, Spelled, end, space, a_word, a_name, at_line_end, blank_line, comment_line, header, is_padded, is_count, Spells, file_signs}
use Rattle.qcir_tokens.specs.Tokens.{Token, token, file_tokens}
use Rattle.qcir_spelling.specs.Machine.{Place, headed, padded, counted, ready, digits, comment, State, start, run, step, step_at, between, read_digit, end_line, move, move_name, emit, is_done, accepts, tokens_of, point, points, row_at, row, arrow_of}
use Rattle.qcir_spelling.proofs.Points.{start_ends, end_starts, name_once, word_within, starts_24}
use Rattle.qcir_spelling.proofs.Signs.{line_end, go, after, closes, emitted, after_from}
use Rattle.qcir_spelling.proofs.Files.{Takes, file_takes}
use Rattle.qcir_spelling.proofs.Turns.{Read, whole, part, no_word, Number, within_most, too_high, Ended, line, blank, no_end, Between, by_space, by_end, by_sharp, by_digit, by_word, Turn, from_dead, no_header, in_header, end_header, no_count, first_space, end_headed, no_padding, next_space, first_count, end_padded, next_count, after_count, at_point, in_word, next_digit, after_name, in_comment, end_comment, turn}
use Rattle.qcir_spelling.proofs.Runs.{st, no_name, run_append}
use Rattle.qcir_spelling.proofs.Words.{after_word, word_ready, word_digits}

-- the signs begin with a line's end
unfoldable pub line_next : List Sign → Bool
line_next [] = false
line_next (word w ∷ ss) = false
line_next (name x ∷ ss) = false
line_next (newline ∷ ss) = true

-- The places that take the spelling of the signs as point c does.
pub data Open (c : ℕ) (ss : List Sign) : Place → Type 0 where
  o_ready : Open c ss (ready c)
  o_digits : (point c).named ≡ 0 → Open c ss (digits c)
  o_comment : (point c).starts ≡ true → line_next ss ≡ true → Open c ss (comment c)
  o_headed : c ≡ 1 → line_next ss ≡ true → Open c ss headed
  o_padded : c ≡ 1 → line_next ss ≡ true → Open c ss padded
  o_counted : c ≡ 1 → line_next ss ≡ true → Open c ss counted

-- A space.
space_low : (b : ℕ) → is_space b ≡ true → b ≤ 32
unfolding is_space
space_low b h =
    or_cases (eqb b 32) (eqb b 9) h (λ e. let q : b ≡ 32 = eqb-true b 32 e in omega arith) (λ e. let q : b ≡ 9 = eqb-true b 9 e in omega arith)

space_line : (b : ℕ) → is_space b ≡ true → eqb b 10 ≡ false
unfolding is_space
space_line b h =
    or_cases (eqb b 32) (eqb b 9) h
    (λ e. let q : b ≡ 32 = eqb-true b 32 e in ne_eqb b 10 (λ z. omega arith))
    (λ e. let q : b ≡ 9 = eqb-true b 9 e in ne_eqb b 10 (λ z. omega arith))

space_digit : (b : ℕ) → is_space b ≡ true → is_digit b ≡ false
unfolding is_digit
space_digit b h = let l : b ≤ 32 = space_low b h in and_off_left _ _ (lt-leb 48 b (omega arith))

record Spaced (most c p : ℕ) (x : Name) (ts : List Token) (ss : List Sign) (place : Place) (b : ℕ) : Type 0 where
  next : Place
  open' : Open c ss next
  stepped : step most (st place p x ts) b ≡ st next (suc p) x ts

space_step : (most c p : ℕ) (x : Name) (ts : List Token) (ss : List Sign) (place : Place) (b : ℕ) → Open c ss place → is_space b ≡ true
    → Spaced most c p x ts ss place b
unfolding step step_at between move
space_step most c p x ts ss place b o_ready h = record { next = ready c; open' = o_ready; stepped = pick_yes _ _ _ h }
space_step most c p x ts ss place b (o_digits n) h =
    record { next = ready c; open' = o_ready; stepped = pick_no _ _ _ (space_digit b h) ∙ pick_yes _ _ _ h }
space_step most c p x ts ss place b (o_comment s l) h =
    record { next = comment c; open' = o_comment s l; stepped = pick_no _ _ _ (space_line b h) }
space_step most c p x ts ss place b (o_headed e l) h = record { next = padded; open' = o_padded e l; stepped = pick_yes _ _ _ h }
space_step most c p x ts ss place b (o_padded e l) h = record { next = padded; open' = o_padded e l; stepped = pick_yes _ _ _ h }
space_step most c p x ts ss place b (o_counted e l) h =
    record { next = ready 1; open' = subst (λ k. Open k ss (ready 1)) (sym e) o_ready; stepped = pick_no _ _ _ (space_digit b h) ∙ pick_yes _ _ _ h }

-- The end of a line.
line_start : (c : ℕ) → (point c).starts ≡ true → line_end c ≡ c
unfolding line_end
line_start c e = pick_yes _ _ _ e

line_within : (c : ℕ) → (point c).starts ≡ false → line_end c ≡ (point c).ended
unfolding line_end
line_within c e = pick_no _ _ _ e

pub end_ready : (c p : ℕ) (place : Place) (x : Name) (ts : List Token) → (line_end c ≡ 0 → ⊥)
    → end_line (st place p x ts) c ≡ st (ready (line_end c)) (suc p) x ts
unfolding end_line move
end_ready c p place x ts n = by (look (point c).starts)
  where
    by : Is (point c).starts → end_line (st place p x ts) c ≡ st (ready (line_end c)) (suc p) x ts
    by (is_true e) =
        pick_yes _ _ _ (eq-eqb (point c).ended 0 (start_ends c e)) ∙ pick_yes _ _ _ e ∙ ap (λ k. st (ready k) (suc p) x ts) (sym (line_start c e))
    by (is_false e) =
        pick_no _ _ _ (ne_eqb (point c).ended 0 (λ z. n (line_within c e ∙ z))) ∙ ap (λ k. st (ready k) (suc p) x ts) (sym (line_within c e))

line_step : (most c p : ℕ) (x : Name) (ts : List Token) (ss : List Sign) (place : Place) → Open c (newline ∷ ss) place → (line_end c ≡ 0 → ⊥)
    → step most (st place p x ts) 10 ≡ st (ready (line_end c)) (suc p) x ts
unfolding step step_at between is_space is_digit pick move
line_step most c p x ts ss place o_ready n = end_ready c p (ready c) x ts n
line_step most c p x ts ss place (o_digits d) n = end_ready c p (digits c) x ts n
line_step most c p x ts ss place (o_comment s l) n = ap (λ k. st (ready k) (suc p) x ts) (sym (line_start c s))
line_step most c p x ts ss place (o_headed e l) n =
    subst (λ k. (line_end k ≡ 0 → ⊥) → end_line (st headed p x ts) 1 ≡ st (ready (line_end k)) (suc p) x ts) (sym e) (end_ready 1 p headed x ts) n
line_step most c p x ts ss place (o_padded e l) n =
    subst (λ k. (line_end k ≡ 0 → ⊥) → end_line (st padded p x ts) 1 ≡ st (ready (line_end k)) (suc p) x ts) (sym e) (end_ready 1 p padded x ts) n
line_step most c p x ts ss place (o_counted e l) n =
    subst (λ k. (line_end k ≡ 0 → ⊥) → end_line (st counted p x ts) 1 ≡ st (ready (line_end k)) (suc p) x ts) (sym e) (end_ready 1 p counted x ts) n

-- a line starts there
line_starts : (c : ℕ) → (line_end c ≡ 0 → ⊥) → (point (line_end c)).starts ≡ true
line_starts c n = by (look (point c).starts)
  where
    by : Is (point c).starts → (point (line_end c)).starts ≡ true
    by (is_true e) = subst (λ k. (point k).starts ≡ true) (sym (line_start c e)) e
    by (is_false e) = subst (λ k. (point k).starts ≡ true) (sym (line_within c e)) (end_starts c (λ z. n (line_within c e ∙ z)))

line_again : (c : ℕ) → (line_end c ≡ 0 → ⊥) → line_end (line_end c) ≡ line_end c
line_again c n = line_start (line_end c) (line_starts c n)

-- A comment line.
gap_run : (most c p : ℕ) (x : Name) (ts : List Token) (gap : List ℕ) → all is_space gap ≡ true
    → run most (st (ready c) p x ts) gap ≡ st (ready c) (p + length gap) x ts
unfolding run step step_at between move all
gap_run most c p x ts [] h = let k : p ≡ p + 0 = omega arith in ap (λ i. st (ready c) i x ts) k
gap_run most c p x ts (b ∷ gap) h =
    let k : suc p + length gap ≡ p + suc (length gap) = omega arith in
    ap (λ s. run most s gap) (pick_yes _ _ _ (and_left _ _ h))
    ∙ gap_run most c (suc p) x ts gap (and_right (is_space b) _ h)
    ∙ ap (λ i. st (ready c) i x ts) k

note_run : (most c p : ℕ) (x : Name) (ts : List Token) (note : List ℕ) → mem 10 note ≡ false
    → run most (st (comment c) p x ts) note ≡ st (comment c) (p + length note) x ts
unfolding run step step_at move mem
note_run most c p x ts [] h = let k : p ≡ p + 0 = omega arith in ap (λ i. st (comment c) i x ts) k
note_run most c p x ts (b ∷ note) h =
    let k : suc p + length note ≡ p + suc (length note) = omega arith in
    ap (λ s. run most s note) (pick_no _ _ _ (ne_eqb b 10 (λ q. eqb-false 10 b (or_neither_left _ _ h) (sym q))))
    ∙ note_run most c (suc p) x ts note (or_neither_right (eqb 10 b) _ h)
    ∙ ap (λ i. st (comment c) i x ts) k

sharp_step : (most c p : ℕ) (x : Name) (ts : List Token) → (point c).starts ≡ true → step most (st (ready c) p x ts) 35 ≡ st (comment c) (suc p) x ts
unfolding step step_at between is_space pick move
sharp_step most c p x ts e = pick_yes _ _ _ e

comment_run : (most c p : ℕ) (x : Name) (ts : List Token) (gap note : List ℕ) → (point c).starts ≡ true → all is_space gap ≡ true → mem 10 note ≡ false
    → run most (st (ready c) p x ts) (gap ++ (35 ∷ note)) ≡ st (comment c) (p + (length gap + suc (length note))) x ts
unfolding run
comment_run most c p x ts gap note e g h =
    let k : suc (p + length gap) + length note ≡ p + (length gap + suc (length note)) = omega arith in
    run_append most (st (ready c) p x ts) gap (35 ∷ note)
    ∙ ap (λ s. run most s (35 ∷ note)) (gap_run most c p x ts gap g)
    ∙ ap (λ s. run most s note) (sharp_step most c (p + length gap) x ts e)
    ∙ note_run most c (suc (p + length gap)) x ts note h
    ∙ ap (λ i. st (comment c) i x ts) k

-- A name.
pub value_grows : (v : ℕ) (ds : List ℕ) → v ≤ value_from v ds
unfolding value_from
value_grows v [] = omega arith
value_grows v (d ∷ ds) = let h : 10 * v + (d - 48) ≤ value_from (10 * v + (d - 48)) ds = value_grows (10 * v + (d - 48)) ds in omega arith

digits_run : (most c p v q : ℕ) (ts : List Token) (ds : List ℕ) → all is_digit ds ≡ true → value_from v ds ≤ most
    → run most (st (digits c) p (record { number = v; position = q }) ts) ds
    ≡ st (digits c) (p + length ds) (record { number = value_from v ds; position = q }) ts
unfolding run step step_at read_digit move_name all value_from
digits_run most c p v q ts [] h m = let k : p ≡ p + 0 = omega arith in ap (λ i. st (digits c) i (record { number = v; position = q }) ts) k
digits_run most c p v q ts (d ∷ ds) h m =
    let k : suc p + length ds ≡ p + suc (length ds) = omega arith in
    let grows : 10 * v + (d - 48) ≤ value_from (10 * v + (d - 48)) ds = value_grows (10 * v + (d - 48)) ds in
    ap (λ s. run most s ds) (pick_yes _ _ _ (and_left _ _ h) ∙ pick_yes _ _ _ (le-leb (10 * v + (d - 48)) most (omega arith)))
    ∙ digits_run most c (suc p) (10 * v + (d - 48)) q ts ds (and_right (is_digit d) _ h) m
    ∙ ap (λ i. st (digits c) i (record { number = value_from (10 * v + (d - 48)) ds; position = q }) ts) k

name_first : (most c p d : ℕ) (x : Name) (ts : List Token) → ((point c).named ≡ 0 → ⊥) → (leb 49 d && leb d 57) ≡ true → 10 * 0 + (d - 48) ≤ most
    → step most (st (ready c) p x ts) d ≡ st (digits (point c).named) (suc p) (record { number = 10 * 0 + (d - 48); position = p }) ts
unfolding step step_at between read_digit move_name is_space
name_first most c p d x ts n h m =
    let low : 49 ≤ d = leb-true 49 d (and_left _ _ h) in
    let k : d - 48 ≡ 10 * 0 + (d - 48) = omega arith in
    pick_no _ _ _ (or_neither _ _ (ne_eqb d 32 (λ q. omega arith)) (ne_eqb d 9 (λ q. omega arith)))
    ∙ pick_no _ _ _ (ne_eqb d 10 (λ q. omega arith))
    ∙ pick_no _ _ _ (and_off_left _ _ (ne_eqb d 35 (λ q. omega arith)))
    ∙ pick_yes _ _ _ (and_both _ _ h (ap not (ne_eqb (point c).named 0 n)))
    ∙ pick_yes _ _ _ (le-leb (d - 48) most (omega arith))
    ∙ ap (λ i. st (digits (point c).named) (suc p) (record { number = i; position = p }) ts) k

name_run : (most c p : ℕ) (x : Name) (ts : List Token) (ds : List ℕ) → ((point c).named ≡ 0 → ⊥) → is_numeral ds ≡ true → value_from 0 ds ≤ most
    → run most (st (ready c) p x ts) ds ≡ st (digits (point c).named) (p + length ds) (record { number = value_from 0 ds; position = p }) ts
unfolding run is_numeral value_from
name_run most c p x ts [] n h m = clash h refl
name_run most c p x ts (d ∷ ds) n h m =
    let k : suc p + length ds ≡ p + suc (length ds) = omega arith in
    let grows : 10 * 0 + (d - 48) ≤ value_from (10 * 0 + (d - 48)) ds = value_grows (10 * 0 + (d - 48)) ds in
    ap (λ s. run most s ds) (name_first most c p d x ts n (and_left _ _ h) (omega arith))
    ∙ digits_run most (point c).named (suc p) (10 * 0 + (d - 48)) p ts ds (and_right (leb 49 d && leb d 57) _ h) m
    ∙ ap (λ i. st (digits (point c).named) i (record { number = value_from (10 * 0 + (d - 48)) ds; position = p }) ts) k

-- The machine stands at point c and has collected the tokens.
pub record Reached (c : ℕ) (ts : List Token) (s : State) : Type 0 where
  pub stands : Open c [] s.place
  pub collected : s.tokens ≡ ts

carry : {c : ℕ} {us ts : List Token} {s t : State} → s ≡ t → us ≡ ts → Reached c us t → Reached c ts s
carry {c} {us} {ts} {s} {t} e q r = subst (λ z. Reached c ts z) (sym e) (subst (λ z. Reached c z t) q r)

word_open : (most c p : ℕ) (x : Name) (ts : List Token) (w : List ℕ) (ss : List Sign) (place : Place) → Open c (word w ∷ ss) place
    → ((arrow_of w (point c).words).target ≡ 0 → ⊥) → run most (st place p x ts) w ≡ after_word c w (p + length w) x ts
unfolding line_next
word_open most c p x ts w ss place o_ready n = word_ready most c p x ts w n
word_open most c p x ts w ss place (o_digits d) n = word_digits most c p x ts w n
word_open most c p x ts w ss place (o_comment s l) n = clash l refl
word_open most c p x ts w ss place (o_headed e l) n = clash l refl
word_open most c p x ts w ss place (o_padded e l) n = clash l refl
word_open most c p x ts w ss place (o_counted e l) n = clash l refl

name_open : (most c p : ℕ) (x : Name) (ts : List Token) (y : Name) (ds : List ℕ) (ss : List Sign) (place : Place) → Open c (name y ∷ ss) place
    → ((point c).named ≡ 0 → ⊥) → is_numeral ds ≡ true → value_from 0 ds ≤ most
    → run most (st place p x ts) ds ≡ st (digits (point c).named) (p + length ds) (record { number = value_from 0 ds; position = p }) ts
unfolding line_next
name_open most c p x ts y ds ss place o_ready n h m = name_run most c p x ts ds n h m
name_open most c p x ts y ds ss place (o_digits d) n h m = absurd (n d)
name_open most c p x ts y ds ss place (o_comment s l) n h m = clash l refl
name_open most c p x ts y ds ss place (o_headed e l) n h m = clash l refl
name_open most c p x ts y ds ss place (o_padded e l) n h m = clash l refl
name_open most c p x ts y ds ss place (o_counted e l) n h m = clash l refl

-- the token that a role ends, at the end of those before it or before those after it
closed : (b : Bool) (t : Token) (ts rest : List Token) → pick b ts (ts ++ (t ∷ [])) ++ rest ≡ ts ++ (pick b [] (t ∷ []) ++ rest)
unfolding pick
closed true t ts rest = refl
closed false t ts rest = append_assoc ts (t ∷ []) rest

-- a line's end that comes again leads to the same point
again : (c : ℕ) (x : Name) (ts : List Token) (ss : List Sign) (s : State)
    → ((after (line_end (line_end c)) ss ≡ 0 → ⊥) → Reached (after (line_end (line_end c)) ss) (ts ++ emitted (line_end (line_end c)) x ss) s)
    → (after (line_end c) ss ≡ 0 → ⊥) → Reached (after (line_end c) ss) (ts ++ emitted (line_end c) x ss) s
again c x ts ss s f n =
    subst (λ k. (after k ss ≡ 0 → ⊥) → Reached (after k ss) (ts ++ emitted k x ss) s) (line_again c (after_from (line_end c) ss n)) f n

-- What spells the signs leads the machine where the signs lead.
pub reach : {most p : ℕ} {ss : List Sign} {t : List ℕ} → Spelled most p ss t → (c : ℕ) (x : Name) (ts : List Token) (place : Place)
    → Open c ss place → (after c ss ≡ 0 → ⊥) → Reached (after c ss) (ts ++ emitted c x ss) (run most (st place p x ts) t)
unfolding run after go emitted closes line_next
reach end c x ts place o n = record { stands = o; collected = sym (append-nil ts) }
reach {most} {p} (space {b = b} {ss = ss} {t = t} h d) c x ts place o n =
    let s = space_step most c p x ts ss place b o h in
    carry (ap (λ z. run most z t) s.stepped) refl (reach d c x ts s.next s.open' n)
reach {most} {p} (a_word w {ss} {t} d) c x ts place o n =
    let e : run most (st place p x ts) (w ++ t) ≡ run most (after_word c w (p + length w) x ts) t =
    run_append most (st place p x ts) w t ∙ ap (λ z. run most z t) (word_open most c p x ts w ss place o (after_from _ ss n)) in
    carry e (closed (eqb (arrow_of w (point c).words).role 0) (token (arrow_of w (point c).words).role x) ts (emitted (arrow_of w (point c).words).target x ss))
    (reach d (arrow_of w (point c).words).target x _ (ready (arrow_of w (point c).words).target) o_ready n)
reach {most} {p} (a_name ds {ss} {t} h m d) c x ts place o n =
    let y : Name = record { number = value_from 0 ds; position = p } in
    let k : (point c).named ≡ 0 → ⊥ = after_from (point c).named ss n in
    let e : run most (st place p x ts) (ds ++ t) ≡ run most (st (digits (point c).named) (p + length ds) y ts) t =
    run_append most (st place p x ts) ds t ∙ ap (λ z. run most z t) (name_open most c p x ts y ds ss place o k h m) in
    carry e refl (reach d (point c).named y ts (digits (point c).named) (o_digits (name_once c k).0) n)
reach {most} {p} (at_line_end {ss = ss} {t = t} d) c x ts place o n =
    carry (ap (λ z. run most z t) (line_step most c p x ts ss place o (after_from (line_end c) ss n))) refl
    (reach d (line_end c) x ts (ready (line_end c)) o_ready n)
reach {most} {p} (blank_line {ss = ss} {t = t} d) c x ts place o n =
    carry (ap (λ z. run most z t) (line_step most c p x ts ss place o (after_from (line_end c) ss n))) refl
    (again c x ts ss _ (λ m. reach d (line_end c) x ts (ready (line_end c)) o_ready m) n)
reach {most} {p} (comment_line gap note {ss} {t} g h d) c x ts place o n =
    let k : line_end c ≡ 0 → ⊥ = after_from (line_end c) ss n in
    let e : run most (step most (st place p x ts) 10) (gap ++ (35 ∷ (note ++ t))) ≡ run most (st (comment (line_end c)) (suc p + (length gap + suc (length note))) x ts) t =
    ap (λ z. run most z (gap ++ (35 ∷ (note ++ t)))) (line_step most c p x ts ss place o k)
    ∙ ap (λ u. run most (st (ready (line_end c)) (suc p) x ts) u) (sym (append_assoc gap (35 ∷ note) t))
    ∙ run_append most (st (ready (line_end c)) (suc p) x ts) (gap ++ (35 ∷ note)) t
    ∙ ap (λ z. run most z t) (comment_run most (line_end c) (suc p) x ts gap note (line_starts c k) g h) in
    carry e refl (again c x ts ss _ (λ m. reach d (line_end c) x ts (comment (line_end c)) (o_comment (line_starts c k) refl) m) n)

-- The count of the header line.
digit_space : (b : ℕ) → is_digit b ≡ true → is_space b ≡ false
unfolding is_digit is_space
digit_space b h =
    let low : 48 ≤ b = leb-true 48 b (and_left _ _ h) in
    or_neither _ _ (ne_eqb b 32 (λ q. omega arith)) (ne_eqb b 9 (λ q. omega arith))

counted_run : (most p : ℕ) (x : Name) (ts : List Token) (bs : List ℕ) → all is_digit bs ≡ true → run most (st counted p x ts) bs ≡ st counted (p + length bs) x ts
unfolding run step step_at move all
counted_run most p x ts [] h = let k : p ≡ p + 0 = omega arith in ap (λ i. st counted i x ts) k
counted_run most p x ts (b ∷ bs) h =
    let k : suc p + length bs ≡ p + suc (length bs) = omega arith in
    ap (λ s. run most s bs) (pick_yes _ _ _ (and_left _ _ h))
    ∙ counted_run most (suc p) x ts bs (and_right (is_digit b) _ h)
    ∙ ap (λ i. st counted i x ts) k

-- where the machine stands after the count, n bytes taken
record Counted (ss : List Sign) (n : ℕ) (x : Name) (ts : List Token) (s : State) : Type 0 where
  place : Place
  open' : Open 1 (newline ∷ ss) place
  equal : s ≡ st place n x ts

counted_at : {ss : List Sign} {n m : ℕ} {x : Name} {ts : List Token} {s t : State} → s ≡ t → n ≡ m → Counted ss n x ts t → Counted ss m x ts s
counted_at {ss} {n} {m} {x} {ts} {s} {t} e q r = subst (λ z. Counted ss m x ts z) (sym e) (subst (λ k. Counted ss k x ts t) q r)

padded_run : (most p : ℕ) (x : Name) (ts : List Token) (ss : List Sign) (bs : List ℕ) → is_padded bs ≡ true → Counted ss (p + length bs) x ts (run most (st padded p x ts) bs)
unfolding run step step_at move is_padded line_next
padded_run most p x ts ss [] h =
    let k : p ≡ p + 0 = omega arith in record { place = padded; open' = o_padded refl refl; equal = ap (λ i. st padded i x ts) k }
padded_run most p x ts ss (b ∷ bs) h =
    let k : suc p + length bs ≡ p + suc (length bs) = omega arith in
    let later = padded_run most (suc p) x ts ss bs in
    or_cases (is_space b && is_padded bs) (is_digit b && all is_digit bs) h
    (λ e. counted_at (ap (λ s. run most s bs) (pick_yes _ _ _ (and_left _ _ e))) k (later (and_right (is_space b) _ e)))
    (λ e.
    record {
      place = counted;
      open' = o_counted refl refl;
      equal =
          ap (λ s. run most s bs) (pick_no _ _ _ (digit_space b (and_left _ _ e)) ∙ pick_yes _ _ _ (and_left _ _ e))
          ∙ counted_run most (suc p) x ts bs (and_right (is_digit b) _ e)
          ∙ ap (λ i. st counted i x ts) k;
    })

count_run : (most p : ℕ) (x : Name) (ts : List Token) (ss : List Sign) (bs : List ℕ) → is_count bs ≡ true → Counted ss (p + length bs) x ts (run most (st headed p x ts) bs)
unfolding run step step_at move is_count line_next
count_run most p x ts ss [] h =
    let k : p ≡ p + 0 = omega arith in record { place = headed; open' = o_headed refl refl; equal = ap (λ i. st headed i x ts) k }
count_run most p x ts ss (b ∷ bs) h =
    let k : suc p + length bs ≡ p + suc (length bs) = omega arith in
    counted_at (ap (λ s. run most s bs) (pick_yes _ _ _ (and_left _ _ h))) k (padded_run most (suc p) x ts ss bs (and_right (is_space b) _ h))

-- The byte that leads to the start of a line ends no token.
read_kept : {s : State} {c : ℕ} {w : List ℕ} {z : State} → Read s c w z → is_done z.place ≡ true → z.tokens ≡ s.tokens
unfolding move emit is_done
read_kept {c = c} {w = w} (whole n) d =
    clash starts_24 (subst (λ k. (point k).starts ≡ false) (eqb-true _ 24 d) (word_within c w n))
read_kept (part e q) d = refl
read_kept no_word d = refl

number_kept : {most : ℕ} {s z : State} {c n q : ℕ} → Number most s c n q z → z.tokens ≡ s.tokens
unfolding move move_name
number_kept (within_most l) = refl
number_kept too_high = refl

ended_kept : {s : State} {c : ℕ} {z : State} → Ended s c z → z.tokens ≡ s.tokens
unfolding move
ended_kept (line n) = refl
ended_kept (blank e) = refl
ended_kept no_end = refl

between_kept : {most : ℕ} {s z : State} {c b : ℕ} → Between most s c b z → is_done z.place ≡ true → z.tokens ≡ s.tokens
unfolding move
between_kept (by_space e) d = refl
between_kept (by_end e r) d = ended_kept r
between_kept (by_sharp e q) d = refl
between_kept (by_digit e n r) d = number_kept r
between_kept (by_word r) d = read_kept r d

turn_kept : {most : ℕ} {s z : State} {b : ℕ} {place : Place} → Turn most s b place z → is_done z.place ≡ true → z.tokens ≡ s.tokens
unfolding move
turn_kept from_dead d = refl
turn_kept no_header d = refl
turn_kept (in_header e) d = refl
turn_kept (end_header e) d = refl
turn_kept no_count d = refl
turn_kept (first_space e) d = refl
turn_kept (end_headed e r) d = ended_kept r
turn_kept no_padding d = refl
turn_kept (next_space e) d = refl
turn_kept (first_count e) d = refl
turn_kept (end_padded e r) d = ended_kept r
turn_kept (next_count e) d = refl
turn_kept (after_count r) d = between_kept r d
turn_kept (at_point r) d = between_kept r d
turn_kept (in_word r) d = read_kept r d
turn_kept (next_digit e r) d = number_kept r
turn_kept (after_name r) d = between_kept r d
turn_kept (in_comment e) d = refl
turn_kept (end_comment e) d = refl

-- A machine that stands at point 24 is done.
pub stands_done : (place : Place) → Open 24 [] place → is_done place ≡ true
unfolding is_done line_next points row_at row
stands_done place o_ready = refl
stands_done place (o_digits d) = absurd (omega (arith, d))
stands_done place (o_comment s l) = clash l refl
stands_done place (o_headed e l) = clash l refl
stands_done place (o_padded e l) = clash l refl
stands_done place (o_counted e l) = clash l refl

header_run : (most : ℕ) → run most start header ≡ st headed 9 no_name []
unfolding run step step_at start pick move no_name
header_run most = refl

-- The state after the text and the LF that its end is read as.
last_step : (most : ℕ) (text : List ℕ) → run most start (text ++ (10 ∷ [])) ≡ step most (run most start text) 10
unfolding run
last_step most text = run_append most start text (10 ∷ [])

-- What spells a file leads to its end, with its tokens.
spells_reach : {most : ℕ} {text : List ℕ} {f : File} → Spells most text f → Reached 24 (file_tokens f) (step most (run most start text) 10)
spells_reach {most} {text} {f} s =
    let ss : List Sign = file_signs f in
    let takes : Takes 1 no_name (newline ∷ ss) (file_tokens f) = file_takes f no_name in
    let c = count_run most 9 no_name [] ss s.count s.counted in
    let r : Reached (after 1 (newline ∷ ss)) (emitted 1 no_name (newline ∷ ss)) (run most (st c.place (9 + length s.count) no_name []) s.rest) =
    reach s.spelled 1 no_name [] c.place c.open' (λ z. omega (arith, takes.0)) in
    let e : step most (run most start text) 10 ≡ run most (st c.place (9 + length s.count) no_name []) s.rest =
    sym (last_step most text) ∙ ap (run most start) s.parts ∙ run_append most start header (s.count ++ s.rest)
    ∙ ap (λ z. run most z (s.count ++ s.rest)) (header_run most)
    ∙ run_append most (st headed 9 no_name []) s.count s.rest
    ∙ ap (λ z. run most z s.rest) c.equal in
    subst (λ k. Reached k (file_tokens f) (step most (run most start text) 10)) takes.0 (carry e takes.1 r)

pub complete : {most : ℕ} {text : List ℕ} {f : File} → Spells most text f → (accepts most text ≡ true) × (tokens_of most text ≡ file_tokens f)
unfolding accepts tokens_of
complete {most} {text} {f} s =
    let r = spells_reach s in
    let done = stands_done _ r.stands in
    (done, sym (turn_kept (turn most (run most start text) 10) done) ∙ r.collected)
