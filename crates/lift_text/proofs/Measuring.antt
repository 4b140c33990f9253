-- What is owed of measuring a text follows from what comes of it.
-- Assumes nothing.
use mathlib.Core.Path.{◌≡◌, refl, sym, ◌∙◌, ap}
use mathlib.Core.Bool.{true}
use mathlib.Core.List.{List, [], ◌∷◌}
use Prim.Native.Nat.{ℕ}
use native.Mathlib.Omega.{arith}
use Rattle.lists.specs.Members.{mem, all}
use Rattle.refusals.specs.Verdict.{refusal, accepted}
use Rattle.refusals.specs.Outcome.{AnswerWith, Outcome, refused, done}
use Rattle.prenex_form.specs.declared.Sizes.{Sizes}
use Rattle.prenex_form.specs.Sizes.{sizes}
use Rattle.formula.specs.Words.{table_of}
use Rattle.prenex.specs.Outcome.{no_sizes}
use Rattle.qcir.specs.Table.{table_words, table_list}
use Rattle.qcir.specs.FromText.{limits, text_refusals, refused_text}
use Rattle.qcir.proofs.Answers.{no_refusal, Ways, both_refused, both_go_on, ways, from_text}
use Rattle.qcir_reader.proofs.Unique.{outcome_unique, only_one}
use Rattle.form_writer.specs.declared.Format.{Format}
use Rattle.text_answers.specs.Answers.{TextSizes, no_text_sizes}
use Rattle.lift_text.specs.Lifting.{written_as, Lifting}
use Rattle.lift_text.specs.Measuring.{alone, measured_table, Measuring, MeasuresText}
use Rattle.lift_text.proofs.Promise.{listed, Way, short_way, done_way, way}

module _ (format : Format) (text before : List ℕ) (o : Outcome TextSizes (List ℕ)) (lifting : Lifting format text before o) (zero : o.answer.verdict.number ≡ 0) where
  is : (p : Outcome TextSizes (List ℕ)) → Lifting format text before p → o ≡ p
  is p h = outcome_unique limits no_text_sizes before (written_as format before) text o p lifting h

  -- A lift that is done answers the sizes of the table.
  lifted_sizes : (ws ls : List ℕ) (p : Outcome TextSizes (List ℕ)) → Way format before ws ls p → o ≡ p → o.answer.sizes.table ≡ sizes (table_of ws ls)
  unfolding refused_text refused refusal done
  lifted_sizes ws ls _ (short_way h) e = absurd (omega (arith, zero, ap (λ (q : Outcome TextSizes (List ℕ)). q.answer.verdict.number) e))
  lifted_sizes ws ls _ (done_way h) e = ap (λ (q : Outcome TextSizes (List ℕ)). q.answer.sizes.table) e

  same_sizes : (q : Outcome Sizes (Unit {0})) → Ways limits no_sizes tt measured_table no_text_sizes before (written_as format before) text q
      → o.answer.sizes.table ≡ q.answer.sizes
  unfolding refused_text refused refusal measured_table done text_refusals mem
  same_sizes _ (both_refused k position m h) = absurd (no_refusal 0 k refl m (sym (ap (λ (q : Outcome TextSizes (List ℕ)). q.answer.verdict.number) (is _ h)) ∙ zero))
  same_sizes _ (both_go_on f s a b h) = lifted_sizes _ _ _ (way format before (table_words f) (table_list f)) (is _ h)

abbrev measure_numbers : List ℕ
measure_numbers = 0 ∷ 2 ∷ 6 ∷ 10 ∷ 11 ∷ 12 ∷ 13 ∷ []

abbrev Listed : Outcome Sizes (Unit {0}) → Type 0
Listed o = mem o.answer.verdict.number measure_numbers ≡ true

pub measures_text : (text : List ℕ) (a : AnswerWith Sizes) → Measuring text a → MeasuresText text a
unfolding refused_text refused refusal measured_table done accepted text_refusals mem all
measures_text text a h =
    record {
      outcome = h;
      only = only_one limits no_sizes tt measured_table text (alone a) h;
      as_lifted = λ format before o l z. same_sizes format text before o l z (alone a) (ways limits no_sizes tt measured_table no_text_sizes before (written_as format before) text (alone a) h);
      numbers = from_text limits no_sizes tt measured_table text Listed (λ number position m. listed measure_numbers number refl m) (λ f s n z. refl) (alone a) h;
    }
