-- An accepted text spells a file.
-- Assumes nothing.
use mathlib.Core.Path.{◌≡◌, refl, sym, ◌∙◌, ap, subst}
use mathlib.Core.Bool.{Bool, true, false, ◌&&◌}
use mathlib.Core.List.{List, [], ◌∷◌, ◌++◌, append_assoc, append-nil}
use Prim.Native.Nat.{ℕ, suc, ◌+◌, ◌*◌, ◌-◌, ◌≤◌}
use native.Mathlib.Omega.{arith}
use lib.Dec.{eqb, leb}
use lib.ListN.{length, length-append}
use borrow.Author.Tests.{eqb-true, eqb-false, ne_eqb}
use Rattle.lists.specs.Choice.{and_left, and_right, and_both, or_left, or_right, or_neither, clash, Is, is_true, is_false, look, absent}
use Rattle.lists.proofs.Members.{all_append}
use Rattle.lists.specs.Members.{mem, all}
use Rattle.qcir.specs.File.{Name, File}
use Rattle.qcir.specs.Spelling.{Sign, word, name, newline, is_space, is_digit, is_numeral, value_from, Spelled, end, space, a_word, a_name, at_line_end, blank_line, comment_line, header, is_padded, is_count, Spells, file_signs}
use Rattle.qcir_spelling.specs.Machine.{Place, dead, heading, headed, padded, counted, ready, inside, digits, comment, State, start, run, step, move, move_name, emit, is_done, accepts, point, arrow_of}
use Rattle.qcir_spelling.proofs.Points.{start_ends, end_starts, name_once, word_within, within_1, starts_24}
use Rattle.qcir_spelling.proofs.Turns.{Read, whole, part, no_word, within_most, too_high, Ended, line, blank, no_end, Between, by_space, by_end, by_sharp, by_digit, by_word, Turn, from_dead, no_header, in_header, end_header, no_count, first_space, end_headed, no_padding, next_space, first_count, end_padded, next_count, after_count, at_point, in_word, next_digit, after_name, in_comment, end_comment, turn}
use Rattle.qcir_spelling.proofs.Runs.{run_append}
use Rattle.qcir_spelling.proofs.Grammar.{Rest, rest_word, rest_name, rest_end, rest_done, rest_file}

spaces : {most : ℕ} {ss : List Sign} {t : List ℕ} (p : ℕ) (gap : List ℕ) → all is_space gap ≡ true → Spelled most (p + length gap) ss t → Spelled most p ss (gap ++ t)
unfolding all
spaces {most} {ss} {t} p [] h d = let e : p + 0 ≡ p = omega arith in subst (λ k. Spelled most k ss t) e d
spaces {most} {ss} {t} p (b ∷ gap) h d =
    let e : p + suc (length gap) ≡ suc p + length gap = omega arith in
    space (and_left _ _ h) (spaces (suc p) gap (and_right (is_space b) _ h) (subst (λ k. Spelled most k ss t) e d))

-- What the rest t of an accepted text is, the first byte of which has position p: the spelling of a rest of a file.
record Spelt (most c p : ℕ) (t : List ℕ) : Type 0 where
  signs : List Sign
  rest : Rest c signs
  spelled : Spelled most p signs t

-- At the start of a line it continues the line's end before it, and the spaces since.
record Started (most c p : ℕ) (t : List ℕ) : Type 0 where
  signs : List Sign
  rest : Rest c signs
  spelled : (gap : List ℕ) (q : ℕ) → all is_space gap ≡ true → suc q + length gap ≡ p → Spelled most q (newline ∷ signs) (10 ∷ (gap ++ t))

data At (most c p : ℕ) (t : List ℕ) : Type 0 where
  within : (point c).starts ≡ false → Spelt most c p t → At most c p t
  starting : (point c).starts ≡ true → Started most c p t → At most c p t

-- Within a word, whose bytes so far are w.
record InWord (most c p : ℕ) (w t : List ℕ) : Type 0 where
  later : List ℕ
  after : List ℕ
  parts : t ≡ later ++ after
  signs : List Sign
  rest : Rest c (word (w ++ later) ∷ signs)
  spelled : Spelled most (p + length later) signs after

-- Within a name, whose digits so far give n.
record InName (most c p n : ℕ) (t : List ℕ) : Type 0 where
  later : List ℕ
  after : List ℕ
  parts : t ≡ later ++ after
  all_digits : all is_digit later ≡ true
  low : n ≤ most → value_from n later ≤ most
  then' : At most c (p + length later) after

-- Within a comment.
record InComment (most c p : ℕ) (t : List ℕ) : Type 0 where
  note : List ℕ
  after : List ℕ
  parts : t ≡ note ++ after
  one_line : mem 10 note ≡ false
  signs : List Sign
  rest : Rest c signs
  spelled : Spelled most (p + length note) (newline ∷ signs) after

-- Within the header line, where a count that passes the test may come.
record InCount (most p : ℕ) (test : List ℕ → Bool) (t : List ℕ) : Type 0 where
  count : List ℕ
  after : List ℕ
  parts : t ≡ count ++ after
  passes : test count ≡ true
  then' : At most 1 (p + length count) after

record InHeader (most p : ℕ) (hs t : List ℕ) : Type 0 where
  after : List ℕ
  parts : t ≡ hs ++ after
  then' : InCount most (p + length hs) is_count after

-- By the place, the bytes taken, and the number of the last name.
unfoldable Claim : ℕ → Place → ℕ → ℕ → List ℕ → Type 0
Claim most dead p n t = ⊥
Claim most (heading hs) p n t = InHeader most p hs t
Claim most headed p n t = InCount most p is_count t
Claim most padded p n t = InCount most p is_padded t
Claim most counted p n t = InCount most p (all is_digit) t
Claim most (ready c) p n t = At most c p t
Claim most (inside c w) p n t = InWord most c p w t
Claim most (digits c) p n t = InName most c p n t
Claim most (comment c) p n t = (point c).starts ≡ true → InComment most c p t

abbrev Of : ℕ → State → List ℕ → Type 0
Of most s t = Claim most s.place s.taken s.pending.number t

spelt_at : (most c p : ℕ) (t : List ℕ) → Is (point c).starts → Spelt most c p t → At most c p t
spelt_at most c p t (is_false e) r = within e r
spelt_at most c p t (is_true e) r =
    starting e
    (record {
      signs = r.signs;
      rest = r.rest;
      spelled = λ gap q h k. at_line_end (spaces (suc q) gap h (subst (λ i. Spelled most i r.signs t) (sym k) r.spelled));
    })

at_spelt : {most c p : ℕ} {t : List ℕ} → (point c).starts ≡ false → At most c p t → Spelt most c p t
at_spelt e (within f r) = r
at_spelt e (starting f r) = clash f e

at_started : {most c p : ℕ} {t : List ℕ} → (point c).starts ≡ true → At most c p t → Started most c p t
at_started e (within f r) = clash e f
at_started e (starting f r) = r

one_space : (b : ℕ) → is_space b ≡ true → all is_space (b ∷ []) ≡ true
unfolding all
one_space b h = and_both _ _ h refl

-- A byte more before what is claimed.
space_back : {most c p : ℕ} {t : List ℕ} (b : ℕ) → is_space b ≡ true → At most c (suc p) t → At most c p (b ∷ t)
space_back b h (within e r) = within e (record { signs = r.signs; rest = r.rest; spelled = space h r.spelled })
space_back {most} {c} {p} {t} b h (starting e r) =
    starting e
    (record {
      signs = r.signs;
      rest = r.rest;
      spelled = λ gap q g k.
          subst (λ u. Spelled most q (newline ∷ r.signs) (10 ∷ u)) (append_assoc gap (b ∷ []) t)
          (r.spelled (gap ++ (b ∷ [])) q (all_append is_space gap (b ∷ []) g (one_space b h)) (omega (arith, length-append gap (b ∷ []))));
    })

ended_back : {most c : ℕ} {t : List ℕ} {s z : State} → Ended s c z → Of most z t → At most c s.taken (10 ∷ t)
unfolding Claim move all
ended_back {most} {c} {t} {s} (line n) r =
    let later : Started most (point c).ended (suc s.taken) t = at_started (end_starts c n) r in
    within (absent (point c).starts (λ e. n (start_ends c e)))
    (record { signs = newline ∷ later.signs; rest = rest_end c later.signs n later.rest; spelled = later.spelled [] s.taken refl (omega arith) })
ended_back {most} {c} {t} {s} (blank h) r =
    let later : Started most c (suc s.taken) t = at_started h r in
    starting h
    (record {
      signs = later.signs;
      rest = later.rest;
      spelled = λ gap q g k. blank_line (spaces (suc q) gap g (later.spelled [] (suc q + length gap) refl (omega arith)));
    })
ended_back no_end r = absurd r

read_back : {most c : ℕ} {w t : List ℕ} {s z : State} → Read s c w z → Of most z t → InWord most c (suc s.taken) w t
unfolding Claim move emit
read_back {most} {c} {w} {t} {s} (whole n) r =
    let later : Spelt most (arrow_of w (point c).words).target (suc s.taken) t = at_spelt (word_within c w n) r in
    let e : suc s.taken ≡ suc s.taken + 0 = omega arith in
    record {
      later = [];
      after = t;
      parts = refl;
      signs = later.signs;
      rest = subst (λ u. Rest c (word u ∷ later.signs)) (sym (append-nil w)) (rest_word c w later.signs n later.rest);
      spelled = subst (λ i. Spelled most i later.signs t) e later.spelled;
    }
read_back (part e h) r = r
read_back no_word r = absurd r

word_back : {most c p b : ℕ} {t : List ℕ} → InWord most c (suc p) (b ∷ []) t → Spelt most c p (b ∷ t)
word_back {most} {c} {p} {b} {t} r =
    let e : suc p + length r.later ≡ p + suc (length r.later) = omega arith in
    record {
      signs = word (b ∷ r.later) ∷ r.signs;
      rest = r.rest;
      spelled =
          subst (λ u. Spelled most p (word (b ∷ r.later) ∷ r.signs) (b ∷ u)) (sym r.parts)
          (a_word (b ∷ r.later) (subst (λ i. Spelled most i r.signs r.after) e r.spelled));
    }

name_back : {most c p b : ℕ} {t : List ℕ} → (leb 49 b && leb b 57) ≡ true → ((point c).named ≡ 0 → ⊥) → b - 48 ≤ most
    → InName most (point c).named (suc p) (b - 48) t → Spelt most c p (b ∷ t)
unfolding is_numeral value_from
name_back {most} {c} {p} {b} {t} h n l r =
    let later : Spelt most (point c).named (suc p + length r.later) r.after = at_spelt (name_once c n).1 r.then' in
    let e : suc p + length r.later ≡ p + suc (length r.later) = omega arith in
    let k : b - 48 ≡ 10 * 0 + (b - 48) = omega arith in
    let x : Name = record { number = value_from 0 (b ∷ r.later); position = p } in
    record {
      signs = name x ∷ later.signs;
      rest = rest_name c x later.signs n later.rest;
      spelled =
          subst (λ u. Spelled most p (name x ∷ later.signs) (b ∷ u)) (sym r.parts)
          (a_name (b ∷ r.later) (and_both _ _ h r.all_digits) (subst (λ v. value_from v r.later ≤ most) k (r.low l))
          (subst (λ i. Spelled most i later.signs r.after) e later.spelled));
    }

between_back : {most c b : ℕ} {t : List ℕ} {s z : State} → Between most s c b z → Of most z t → At most c s.taken (b ∷ t)
unfolding Claim move move_name
between_back {b = b} (by_space h) r = space_back b h r
between_back {most} {c} {b} {t} {s} (by_end e d) r = subst (λ i. At most c s.taken (i ∷ t)) (sym e) (ended_back d r)
between_back {most} {c} {b} {t} {s} (by_sharp e h) r =
    let note = r h in
    starting h
    (record {
      signs = note.signs;
      rest = note.rest;
      spelled = λ gap q g k.
          let i : suc s.taken + length note.note ≡ suc q + (length gap + suc (length note.note)) = omega arith in
          subst (λ (u : List ℕ). Spelled most q (newline ∷ note.signs) (10 ∷ (gap ++ u))) (sym (ap (λ u. 35 ∷ u) note.parts) ∙ ap (λ i. i ∷ t) (sym e))
          (comment_line gap note.note g note.one_line (subst (λ i. Spelled most i (newline ∷ note.signs) note.after) i note.spelled));
    })
between_back {most} {c} {b} {t} {s} (by_digit h n (within_most l)) r = spelt_at most c s.taken (b ∷ t) (look (point c).starts) (name_back h n l r)
between_back (by_digit h n too_high) r = absurd r
between_back {most} {c} {b} {t} {s} (by_word d) r = spelt_at most c s.taken (b ∷ t) (look (point c).starts) (word_back (read_back d r))

count_more : {most p b : ℕ} {t : List ℕ} (test last : List ℕ → Bool) → ((count : List ℕ) → last count ≡ true → test (b ∷ count) ≡ true)
    → InCount most (suc p) last t → InCount most p test (b ∷ t)
count_more {most} {p} {b} {t} test last f r =
    let e : suc p + length r.count ≡ p + suc (length r.count) = omega arith in
    record {
      count = b ∷ r.count;
      after = r.after;
      parts = ap (λ u. b ∷ u) r.parts;
      passes = f r.count r.passes;
      then' = subst (λ i. At most 1 i r.after) e r.then';
    }

count_none : {most p : ℕ} {t : List ℕ} (test : List ℕ → Bool) → test [] ≡ true → At most 1 p t → InCount most p test t
count_none {most} {p} {t} test h r =
    let e : p ≡ p + 0 = omega arith in
    record { count = []; after = t; parts = refl; passes = h; then' = subst (λ i. At most 1 i t) e r }

header_more : {most p b h : ℕ} {hs t : List ℕ} → b ≡ h → InHeader most (suc p) hs t → InHeader most p (h ∷ hs) (b ∷ t)
header_more {most} {p} {b} {h} {hs} {t} q r =
    let e : suc p + length hs ≡ p + suc (length hs) = omega arith in
    record {
      after = r.after;
      parts = ap (λ i. i ∷ t) q ∙ ap (λ u. h ∷ u) r.parts;
      then' = subst (λ i. InCount most i is_count r.after) e r.then';
    }

header_none : {most p : ℕ} {t : List ℕ} → InCount most p is_count t → InHeader most p [] t
header_none {most} {p} {t} r =
    let e : p ≡ p + 0 = omega arith in
    record { after = t; parts = refl; then' = subst (λ i. InCount most i is_count t) e r }

word_more : {most c p b : ℕ} {w t : List ℕ} → InWord most c (suc p) (w ++ (b ∷ [])) t → InWord most c p w (b ∷ t)
word_more {most} {c} {p} {b} {w} {t} r =
    let e : suc p + length r.later ≡ p + suc (length r.later) = omega arith in
    record {
      later = b ∷ r.later;
      after = r.after;
      parts = ap (λ u. b ∷ u) r.parts;
      signs = r.signs;
      rest = subst (λ u. Rest c (word u ∷ r.signs)) (append_assoc w (b ∷ []) r.later) r.rest;
      spelled = subst (λ i. Spelled most i r.signs r.after) e r.spelled;
    }

digit_more : {most c p n b : ℕ} {t : List ℕ} → is_digit b ≡ true → 10 * n + (b - 48) ≤ most → InName most c (suc p) (10 * n + (b - 48)) t → InName most c p n (b ∷ t)
unfolding all value_from
digit_more {most} {c} {p} {n} {b} {t} h l r =
    let e : suc p + length r.later ≡ p + suc (length r.later) = omega arith in
    record {
      later = b ∷ r.later;
      after = r.after;
      parts = ap (λ u. b ∷ u) r.parts;
      all_digits = and_both _ _ h r.all_digits;
      low = λ m. r.low l;
      then' = subst (λ i. At most c i r.after) e r.then';
    }

name_end : {most c p n : ℕ} {t : List ℕ} → At most c p t → InName most c p n t
unfolding all value_from
name_end {most} {c} {p} {n} {t} r =
    let e : p ≡ p + 0 = omega arith in
    record { later = []; after = t; parts = refl; all_digits = refl; low = λ m. m; then' = subst (λ i. At most c i t) e r }

note_more : {most c p b : ℕ} {t : List ℕ} → eqb b 10 ≡ false → InComment most c (suc p) t → InComment most c p (b ∷ t)
unfolding mem
note_more {most} {c} {p} {b} {t} h r =
    let e : suc p + length r.note ≡ p + suc (length r.note) = omega arith in
    record {
      note = b ∷ r.note;
      after = r.after;
      parts = ap (λ u. b ∷ u) r.parts;
      one_line = or_neither _ _ (ne_eqb 10 b (λ q. eqb-false b 10 h (sym q))) r.one_line;
      signs = r.signs;
      rest = r.rest;
      spelled = subst (λ i. Spelled most i (newline ∷ r.signs) r.after) e r.spelled;
    }

note_end : {most c p : ℕ} {t : List ℕ} → (point c).starts ≡ true → At most c (suc p) t → InComment most c p (10 ∷ t)
unfolding mem all
note_end {most} {c} {p} {t} h r =
    let later : Started most c (suc p) t = at_started h r in
    let e : suc p ≡ suc p + 0 = omega arith in
    record {
      note = [];
      after = 10 ∷ t;
      parts = refl;
      one_line = refl;
      signs = later.signs;
      rest = later.rest;
      spelled = later.spelled [] (p + 0) refl (omega arith);
    }

turn_back : {most b : ℕ} (t : List ℕ) {s z : State} {place : Place} → Turn most s b place z → Of most z t
    → Claim most place s.taken s.pending.number (b ∷ t)
unfolding Claim move move_name is_count is_padded all
turn_back t from_dead r = r
turn_back t no_header r = absurd r
turn_back t (in_header e) r = header_more e r
turn_back t (end_header e) r = header_more e (header_none r)
turn_back t no_count r = absurd r
turn_back t (first_space h) r = count_more is_count is_padded (λ count k. and_both _ _ h k) r
turn_back {most} {b} t {s} (end_headed e d) r = count_none is_count refl (subst (λ i. At most 1 s.taken (i ∷ t)) (sym e) (ended_back d r))
turn_back t no_padding r = absurd r
turn_back {b = b} t (next_space h) r = count_more is_padded is_padded (λ count k. or_left (is_space b && is_padded count) _ (and_both _ _ h k)) r
turn_back {b = b} t (first_count h) r =
    count_more is_padded (all is_digit) (λ count k. or_right (is_space b && is_padded count) _ (and_both (is_digit b) _ h k)) r
turn_back {most} {b} t {s} (end_padded e d) r = count_none is_padded refl (subst (λ i. At most 1 s.taken (i ∷ t)) (sym e) (ended_back d r))
turn_back {b = b} t (next_count h) r = count_more (all is_digit) (all is_digit) (λ count k. and_both (is_digit b) _ h k) r
turn_back t (after_count d) r = count_none (all is_digit) refl (between_back d r)
turn_back t (at_point d) r = between_back d r
turn_back t (in_word d) r = word_more (read_back d r)
turn_back t (next_digit h (within_most l)) r = digit_more h l r
turn_back t (next_digit h too_high) r = absurd r
turn_back t (after_name d) r = name_end (between_back d r)
turn_back t (in_comment h) r = λ e. note_more h (r e)
turn_back {most} {b} t {s} (end_comment {c} e) r = λ h. subst (λ i. InComment most c s.taken (i ∷ t)) (sym e) (note_end h r)

-- A machine that is done.
at_end : (most p : ℕ) → At most 24 p []
at_end most p =
    starting starts_24
    (record { signs = []; rest = rest_done; spelled = λ gap q h k. at_line_end (spaces (suc q) gap h end) })

done_claim : (most : ℕ) (place : Place) (p n : ℕ) → is_done place ≡ true → Claim most place p n []
unfolding Claim is_done
done_claim most dead p n h = clash h refl
done_claim most (heading hs) p n h = clash h refl
done_claim most headed p n h = clash h refl
done_claim most padded p n h = clash h refl
done_claim most counted p n h = clash h refl
done_claim most (ready c) p n h = subst (λ k. At most k p []) (sym (eqb-true c 24 h)) (at_end most p)
done_claim most (inside c w) p n h = clash h refl
done_claim most (digits c) p n h = clash h refl
done_claim most (comment c) p n h = clash h refl

run_claim : (most : ℕ) (s : State) (t : List ℕ) → is_done (run most s t).place ≡ true → Of most s t
unfolding run
run_claim most s [] h = done_claim most s.place s.taken s.pending.number h
run_claim most s (b ∷ t) h = turn_back t (turn most s b) (run_claim most (step most s b) t h)

-- A file that a text spells.
pub record SpelledFile (most : ℕ) (text : List ℕ) : Type 0 where
  pub file : File
  pub spells : Spells most text file

text_claim : (most : ℕ) (text : List ℕ) → accepts most text ≡ true → InHeader most 0 header (text ++ (10 ∷ []))
unfolding accepts run start Claim
text_claim most text h =
    run_claim most start (text ++ (10 ∷ [])) (subst (λ s. is_done s.place ≡ true) (sym (run_append most start text (10 ∷ []))) h)

pub sound : (most : ℕ) (text : List ℕ) → accepts most text ≡ true → SpelledFile most text
sound most text h =
    let r = text_claim most text h in
    let c = r.then' in
    let s : Spelt most 1 (0 + length header + length c.count) c.after = at_spelt within_1 c.then' in
    let f = rest_file s.signs s.rest in
    let e : 0 + length header + length c.count ≡ length header + length c.count = omega arith in
    record {
      file = f.0;
      spells = record {
        count = c.count;
        rest = c.after;
        counted = c.passes;
        parts = r.parts ∙ ap (λ u. header ++ u) c.parts;
        spelled = subst (λ i. Spelled most i (newline ∷ file_signs f.0) c.after) e (subst (λ ss. Spelled most (0 + length header + length c.count) ss c.after) f.1 s.spelled);
      };
    }
