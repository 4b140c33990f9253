-- Which way the writing of a report goes.
-- Assumes nothing.
use mathlib.Core.Path.{◌≡◌, refl, sym, ap, ◌∙◌, subst}
use mathlib.Core.List.{List, ◌++◌}
use Prim.Native.Nat.{ℕ, ◌*◌, ◌/◌, ◌%◌, ◌≤◌, ◌<◌}
use native.Mathlib.Omega.{arith}
use lib.Dec.{ltb}
use lib.ListN.{length, take, length-append}
use borrow.Author.Tests.{eq-eqb, ne_eqb, le-ltb}
use Rattle.lists.specs.Choice.{pick_yes, pick_no, Is, is_true, is_false, look}
use Rattle.lists.proofs.Overwrite.{start_of}
use Rattle.refusals.specs.Verdict.{refusal, accepted}
use Rattle.refusals.specs.declared.Verdict.{Verdict}
use Rattle.refusals.specs.Outcome.{Outcome, done, refused}
use Rattle.refusals.proofs.Outcome.{answer_next, call_room, call_short}
use Rattle.texts.specs.Put.{Put}
use Rattle.form_texts.specs.declared.Answer.{Answer}
use Rattle.form_texts.specs.Writing.{answer_of, after, Suffices}
use Rattle.form_texts.proofs.Texts.{written, roomy, text_refused, text_accepted, counted_short, counted_done}
use Rattle.growth.specs.declared.Totals.{Totals}
use Rattle.growth.specs.Lines.{line_width, line_at}
use Rattle.growth.specs.Totals.{totals, no_totals, lines_verdict, totalled, total_figures}
use Rattle.name_lines.specs.Names.{names, names_verdict, counted}
use Rattle.name_lines.proofs.Verdicts.{Judged, many, long, taken, judged_as, counted_verdict, counted_number, passed}
use Rattle.report_text.specs.Report.{name_lines, line_text, total_word, report_text, report_verdict, reported}
use Rattle.report_text.specs.Bounds.{LineEach, report_room}
use Rattle.report_text.specs.Promise.{Reports}
use Rattle.report_text.proofs.Lines.{few_names}

-- the totals of whole lines, at most 256 of them
pub totals_of : (text ws : List ℕ) (count : ℕ) → LineEach text ws count → (totalled ws).sizes ≡ totals (line_at ws) (length (names text))
unfolding totalled lines_verdict done accepted
totals_of text ws count e =
    let few : count ≤ 256 = (few_names text ws count e).0 in
    let l : length ws ≡ 7 * count = e.lines in
    let whole : length ws % 7 ≡ 0 = omega arith in
    let number : length ws / 7 ≡ count = omega arith in
    let v : lines_verdict ws ≡ accepted = pick_yes _ _ _ (eq-eqb _ _ whole) ∙ pick_no _ _ _ (le-ltb 256 (length ws / 7) (omega arith)) in
    ap (λ a. a.sizes) (answer_next (lines_verdict ws) no_totals (done (totals (line_at ws) (length ws / line_width))) (ap (λ v. v.number) v))
    ∙ ap (λ n. totals (line_at ws) n) (number ∙ e.number)

-- a refusal by a number at 0 that is not 9
refused_by : (text ws before : List ℕ) (r : Answer) (number : ℕ) → r.number ≡ number → r.position ≡ 0 → r.bytes ≡ 0
    → refusal number 0 ≡ report_verdict (names text) ws → (number ≡ 0 → ⊥) → (number ≡ 9 → ⊥)
    → Reports text ws before (after r before)
unfolding reported Suffices answer_of refusal
refused_by text ws before r number n p b v zero nine =
    record {
      outcome =
          (λ i. after (record { number = n i; position = p i; bytes = b i }) before)
          ∙ text_refused (report_text (names text) (line_at ws)) before (report_verdict (names text) ws) number 0 v zero;
      within = omega (arith, b);
      room = λ e. absurd (nine (sym n ∙ e));
    }

-- names that are refused
pub names_refused : (text ws before : List ℕ) (r : Answer) (v : Verdict) → v ≡ (counted (names text)).verdict → (v.number ≡ 0 → ⊥)
    → r.number ≡ v.number → r.position ≡ 0 → r.bytes ≡ 0
    → Reports text ws before (after r before)
unfolding report_verdict refusal accepted
names_refused text ws before r v e refuses n p b = go (judged_as _ _)
  where
    same : v ≡ names_verdict (names text)
    same = e ∙ counted_verdict (names text)

    whole : report_verdict (names text) ws ≡ names_verdict (names text)
    whole = pick_no _ _ _ (ne_eqb _ 0 (subst (λ w. w.number ≡ 0 → ⊥) same refuses))

    go : Judged (names_verdict (names text)) → Reports text ws before (after r before)
    go (many h) =
        refused_by text ws before r 20 (n ∙ ap (λ w. w.number) (same ∙ h)) p b (sym (whole ∙ h)) (λ z. omega (arith, z)) (λ z. omega (arith, z))
    go (long h) =
        refused_by text ws before r 21 (n ∙ ap (λ w. w.number) (same ∙ h)) p b (sym (whole ∙ h)) (λ z. omega (arith, z)) (λ z. omega (arith, z))
    go (taken h) = absurd (refuses (ap (λ w. w.number) (same ∙ h)))

module _ (text ws : List ℕ) (v : Verdict) (count : ℕ) (e : record { verdict = v; sizes = count } ≡ counted (names text)) (zero : v.number ≡ 0) where
  names_zero : (names_verdict (names text)).number ≡ 0
  names_zero = subst (λ w. w.number ≡ 0) (ap (λ a. a.verdict) e ∙ counted_verdict (names text)) zero

  names_count : count ≡ length (names text)
  names_count = ap (λ a. a.sizes) e ∙ counted_number (names text) names_zero

  -- at most 256 names
  pub names_few : count ≤ 256
  names_few = omega (arith, names_count, (passed _ _ names_zero).few)

  -- another number of lines
  pub lines_refused : (before : List ℕ) (r : Answer) → (length ws ≡ line_width * count → ⊥) → r.number ≡ 1 → r.position ≡ 0 → r.bytes ≡ 0
      → Reports text ws before (after r before)
  unfolding report_verdict
  lines_refused before r other n p b =
      let wrong : length ws ≡ line_width * length (names text) → ⊥ = λ h. other (h ∙ ap (λ k. line_width * k) (sym names_count)) in
      refused_by text ws before r 1 n p b
      (sym (pick_yes _ _ _ (eq-eqb _ 0 names_zero) ∙ pick_no _ _ _ (ne_eqb _ _ wrong))) (λ z. omega (arith, z)) (λ z. omega (arith, z))

  pub line_each : length ws ≡ line_width * count → LineEach text ws count
  line_each lines = record { taken = (passed _ _ names_zero).verdict; number = names_count; lines = lines }

-- a line for each name
pub each_accepted : (text ws : List ℕ) (count : ℕ) → LineEach text ws count → report_verdict (names text) ws ≡ accepted
unfolding report_verdict accepted
each_accepted text ws count e =
    pick_yes _ _ _ (eq-eqb _ 0 (ap (λ v. v.number) e.taken))
    ∙ pick_yes _ _ _ (eq-eqb _ _ (e.lines ∙ ap (λ n. line_width * n) e.number))

-- What is put with totals t.
abbrev put_text : List ℕ → List ℕ → Totals → List ℕ
put_text text ws t = name_lines (names text) (line_at ws) 0 ++ line_text total_word (total_figures t)

module _ (text ws before : List ℕ) (count : ℕ) (e : LineEach text ws count) (t : Totals) (sums : t ≡ (totalled ws).sizes) where
  put_text_lem : put_text text ws t ≡ report_text (names text) (line_at ws)
  unfolding report_text
  put_text_lem = ap (λ t. put_text text ws t) (sums ∙ totals_of text ws count e)

  pub report_short : (part lent : List ℕ) (n : ℕ) (r : Answer) → Put lent 0 (put_text text ws t) part n → length lent ≡ 0 → length before < n
      → n ≤ report_room → r.number ≡ 9 → r.position ≡ 0 → r.bytes ≡ 0
      → Reports text ws before (after r (part ++ before))
  unfolding reported Suffices answer_of
  report_short part lent n r put none short room number position bytes =
      record {
        outcome =
            (λ i. after (record { number = number i; position = position i; bytes = bytes i }) (part ++ before))
            ∙ counted_short (report_text (names text) (line_at ws)) before (report_verdict (names text) ws) part lent n (each_accepted text ws count e)
            (subst (λ p. Put lent 0 p part n) put_text_lem put) none short;
        within = omega (arith, bytes);
        room = λ _. omega arith;
      }

  pub report_done : (part lent last : List ℕ) (n m : ℕ) → Put lent 0 (put_text text ws t) part n → length lent ≡ 0 → n ≤ length before
      → Put (part ++ before) 0 (put_text text ws t) last m
      → Reports text ws before (after (record { number = 0; position = 0; bytes = n }) last)
  unfolding reported Suffices answer_of refusal
  report_done part lent last n m put none room over =
      record {
        outcome =
            counted_done (report_text (names text) (line_at ws)) before (report_verdict (names text) ws) part lent last n m (each_accepted text ws count e)
            (subst (λ p. Put lent 0 p part n) put_text_lem put) none room (subst (λ p. Put (part ++ before) 0 p last m) put_text_lem over);
        within = omega (arith, over.kept, length-append part before);
        room = λ z. absurd (omega (arith, z));
      }

-- With a line for each name and room for every report, the report is at the buffer's start.
pub report_whole : (text ws before : List ℕ) (count : ℕ) → LineEach text ws count → report_room ≤ length before
    → (o : Outcome ℕ (List ℕ)) → Reports text ws before o → take o.answer.sizes o.buffers ≡ report_text (names text) (line_at ws)
unfolding reported Suffices written roomy done refused refusal
report_whole text ws before count e room o r = go (look (ltb (length before) (length report)))
  where
    report : List ℕ
    report = report_text (names text) (line_at ws)

    accepted_so : o ≡ roomy report before
    accepted_so = r.outcome ∙ text_accepted report before (report_verdict (names text) ws) (each_accepted text ws count e)

    go : Is (ltb (length before) (length report)) → take o.answer.sizes o.buffers ≡ report
    go (is_true t) =
        let nine : o.answer.verdict.number ≡ 9 =
        ap (λ (x : Outcome ℕ (List ℕ)). x.answer.verdict.number) (accepted_so ∙ call_short 0 before (written report before) _ t) in
        absurd (omega (arith, r.room nine))
    go (is_false t) =
        ap (λ (x : Outcome ℕ (List ℕ)). take x.answer.sizes x.buffers) (accepted_so ∙ call_room 0 before (written report before) _ t)
        ∙ start_of before report _ refl
