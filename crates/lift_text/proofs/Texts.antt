-- From what a reading into the largest buffers left to what comes of the text in another call.
-- Assumes nothing.
use mathlib.Core.Path.{◌≡◌, refl, sym, ap, subst}
use mathlib.Core.List.{List}
use Prim.Native.Nat.{ℕ, ◌≤◌}
use native.Mathlib.Omega.{arith}
use lib.ListN.{length, take}
use borrow.Author.Tests.{le-ltb}
use Rattle.lists.specs.Choice.{or_neither}
use Rattle.lists.specs.Members.{mem}
use Rattle.lists.specs.Parts.{overwrite}
use Rattle.lists.proofs.Overwrite.{start_of, length_overwrite}
use Rattle.refusals.specs.Verdict.{refusal, accepted}
use Rattle.refusals.specs.Outcome.{Outcome, refused, done}
use Rattle.refusals.proofs.Outcome.{call_room}
use Rattle.qcir.specs.File.{File}
use Rattle.qcir.specs.Table.{table_words, table_list}
use Rattle.qcir.specs.FromText.{limits, text_refusals, refused_text, FromText}
use Rattle.qcir.specs.Reading.{Written, Buffers, buffers, none_written, done_with, stored, Reading}
use Rattle.qcir.proofs.Answers.{no_refusal, Ways, both_refused, both_go_on, ways}
use Rattle.qcir_reader.proofs.Texts.{Passed, passed, words_fit, list_fits}

abbrev number : Outcome Written Buffers → ℕ
number o = o.answer.verdict.number

module _ (words list : List ℕ) (wide : length words ≡ 16384) (long : length list ≡ 4096) where
  -- A table that was read has room.
  fits : (f : File) → Passed f → stored (buffers words list) (table_words f) (table_list f) ≡ done_with (table_words f) (table_list f) (buffers words list)
  unfolding stored
  fits f p =
      let a : length (table_words f) ≤ length words = omega (arith, words_fit f p, wide) in
      let b : length (table_list f) ≤ length list = omega (arith, list_fits f p, long) in
      call_room none_written (buffers words list) _ _ (or_neither _ _ (le-ltb _ _ a) (le-ltb _ _ b))

  module _ (text : List ℕ) {Sizes Bufs : Type 0} (none : Sizes) (before : Bufs) (next : List ℕ → List ℕ → Outcome Sizes Bufs) where
    abbrev Way : Outcome Written Buffers → Type 0
    Way = Ways limits none_written (buffers words list) (stored (buffers words list)) none before next text

    -- Where reading refuses, the text is refused by the same verdict.
    refused_way : (o : Outcome Written Buffers) → Way o → (number o ≡ 0 → ⊥) → FromText limits none before next text (refused_text none before o.answer.verdict)
    unfolding refused_text refused done_with done accepted
    refused_way _ (both_refused _ _ _ h) n = h
    refused_way _ (both_go_on f s a b h) n = absurd (n (ap number (fits f (passed f a b))))

    pub read_refused : (o : Outcome Written Buffers) → Reading limits text (buffers words list) o → (o.answer.verdict.number ≡ 0 → ⊥)
        → FromText limits none before next text (refused_text none before o.answer.verdict)
    read_refused o reading = refused_way o (ways _ _ _ _ _ _ _ _ o reading)

    -- Where it is done, what it wrote is in the buffers, and what comes of it comes of the text.
    pub record ReadDone (o : Outcome Written Buffers) : Type 0 where
      pub words_in : o.answer.sizes.words ≤ length o.buffers.words
      pub list_in : o.answer.sizes.entries ≤ length o.buffers.list
      pub goes_on : FromText limits none before next text
          (next (take o.answer.sizes.words o.buffers.words) (take o.answer.sizes.entries o.buffers.list))

    done_way : (o : Outcome Written Buffers) → Way o → number o ≡ 0 → ReadDone o
    unfolding refused_text refused refusal done_with done text_refusals mem
    done_way _ (both_refused k _ m _) z = absurd (no_refusal 0 k refl m z)
    done_way _ (both_go_on f s a b h) z =
        let p = passed f a b in
        let ws = table_words f in
        let ls = table_list f in
        let lw : length (overwrite words 0 ws) ≡ length words = length_overwrite words 0 ws (omega (arith, words_fit f p, wide)) in
        let ll : length (overwrite list 0 ls) ≡ length list = length_overwrite list 0 ls (omega (arith, list_fits f p, long)) in
        subst ReadDone (sym (fits f p))
        (record {
          words_in = omega (arith, words_fit f p, wide, lw);
          list_in = omega (arith, list_fits f p, long, ll);
          goes_on =
              subst (λ (l : List ℕ). FromText limits none before next text (next l (take (length ls) (overwrite list 0 ls)))) (sym (start_of words ws _ refl))
              (subst (λ (l : List ℕ). FromText limits none before next text (next ws l)) (sym (start_of list ls _ refl)) h);
        })

    pub read_done : (o : Outcome Written Buffers) → Reading limits text (buffers words list) o → o.answer.verdict.number ≡ 0 → ReadDone o
    read_done o reading = done_way o (ways _ _ _ _ _ _ _ _ o reading)
