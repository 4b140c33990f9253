-- Lifting a text in lent memory: the ways of a table that was read, and what is owed of the call.
-- Assumes nothing.
use mathlib.Core.Path.{◌≡◌, refl, sym, ◌∙◌, ap, subst}
use mathlib.Core.List.{List}
use Prim.Native.Nat.{ℕ, ◌*◌, ◌<◌, ◌≤◌}
use native.Mathlib.Omega.{arith}
use lib.Dec.{ltb}
use lib.ListN.{length}
use borrow.Author.Tests.{ltb-true, ltb-false, lt-ltb, le-ltb}
use Rattle.lists.specs.Choice.{pick, Is, is_true, is_false, look}
use Rattle.lists.specs.Members.{mem}
use Rattle.lists.specs.Parts.{overwrite}
use Rattle.formula.specs.Words.{width, table_of}
use Rattle.refusals.specs.Verdict.{refusal, accepted}
use Rattle.refusals.specs.Outcome.{Outcome, refused, done}
use Rattle.refusals.proofs.Outcome.{call_next, call_refused}
use Rattle.prenex_form.specs.Matrix.{written_nodes}
use Rattle.qcir.specs.Table.{table_words, table_list}
use Rattle.qcir.specs.FromText.{limits, text_refusals, refused_text}
use Rattle.qcir.proofs.Answers.{no_refusal, Ways, both_refused, both_go_on, ways}
use Rattle.qcir_reader.proofs.Unique.{only_one}
use Rattle.form_writer.specs.declared.Format.{Format}
use Rattle.text_answers.specs.Answers.{TextSizes, no_text_sizes}
use Rattle.lift_text.specs.Lifting.{written_as, Lifting}
use Rattle.lift_text.specs.Memory.{Lent, text_of, beside, written_in, LiftingIn, LiftsTextIn}
use Rattle.lift_text.proofs.Promise.{Way, short_way, done_way, way, nodes_room, lifts_text}

module _ (format : Format) (before : Lent) (ws ls : List ℕ) where
  pub no_memory : length before.nodes < length (written_nodes (table_of ws ls)) → written_in format before ws ls ≡ refused_text no_text_sizes before (refusal 24 0)
  unfolding written_in refused_text refusal pick
  no_memory h = rw (lt-ltb _ _ h) (call_refused no_text_sizes before _ (refusal 24 0) (λ z. omega (arith, z)))

  pub has_memory : length (written_nodes (table_of ws ls)) ≤ length before.nodes
      → written_in format before ws ls ≡ beside (overwrite before.nodes 0 (written_nodes (table_of ws ls))) (written_as format before.out ws ls)
  unfolding written_in accepted pick
  has_memory h = rw (le-ltb _ _ h) (call_next no_text_sizes before _ accepted refl)

  -- What is written without lent memory is never refused by 24.
  pub never_memory : (written_as format before.out ws ls).answer.verdict.number ≡ 24 → ⊥
  unfolding refused_text refused refusal done accepted
  never_memory = go _ (way format before.out ws ls)
    where
      go : (o : Outcome TextSizes (List ℕ)) → Way format before.out ws ls o → o.answer.verdict.number ≡ 24 → ⊥
      go _ (short_way h) z = omega (arith, z)
      go _ (done_way h) z = omega (arith, z)

module _ (format : Format) (text : List ℕ) (before : Lent) where
  abbrev Both : Outcome TextSizes Lent → Type 0
  Both = Ways limits no_text_sizes before (written_in format before) no_text_sizes before.out (written_as format before.out) text

  -- Of the text comes what comes without lent memory, unless 24 refuses it.
  text_too : (o : Outcome TextSizes Lent) → Both o → (o.answer.verdict.number ≡ 24 → ⊥) → Lifting format text before.out (text_of o)
  unfolding refused_text refused refusal
  text_too _ (both_refused _ _ _ h) n = h
  text_too _ (both_go_on f s a b h) n = go (look (ltb (length before.nodes) (length (written_nodes (table_of (table_words f) (table_list f))))))
    where
      go : Is (ltb (length before.nodes) (length (written_nodes (table_of (table_words f) (table_list f))))) → Lifting format text before.out (text_of (written_in format before (table_words f) (table_list f)))
      go (is_true t) = absurd (n (ap (λ (o : Outcome TextSizes Lent). o.answer.verdict.number) (no_memory format before _ _ (ltb-true _ _ t))))
      go (is_false t) = subst (λ (o : Outcome TextSizes Lent). Lifting format text before.out (text_of o)) (sym (has_memory format before _ _ (ltb-false _ _ t))) h

  little : (o : Outcome TextSizes Lent) → Both o → o.answer.verdict.number ≡ 24 → length before.nodes < width * 40960
  unfolding refused_text refused refusal text_refusals mem
  little _ (both_refused k _ m _) z = absurd (no_refusal 24 k refl m z)
  little _ (both_go_on f s a b h) z = go (look (ltb (length before.nodes) (length (written_nodes (table_of (table_words f) (table_list f))))))
    where
      go : Is (ltb (length before.nodes) (length (written_nodes (table_of (table_words f) (table_list f))))) → length before.nodes < width * 40960
      go (is_true t) =
          let l : length before.nodes < length (written_nodes (table_of (table_words f) (table_list f))) = ltb-true _ _ t in
          let m = nodes_room text f s a b in
          omega (arith, l, m)
      go (is_false t) =
          absurd (never_memory format before (table_words f) (table_list f) (sym (ap (λ (o : Outcome TextSizes Lent). o.answer.verdict.number) (has_memory format before _ _ (ltb-false _ _ t))) ∙ z))

  -- All that is promised follows from the outcome.
  pub lifts_in : (o : Outcome TextSizes Lent) → LiftingIn format text before o → LiftsTextIn format text before o
  lifts_in o h =
      let both = ways limits no_text_sizes before (written_in format before) no_text_sizes before.out (written_as format before.out) text o h in
      record {
        outcome = h;
        only = only_one limits no_text_sizes before (written_in format before) text o h;
        lifts = λ n. lifts_text format text before.out (text_of o) (text_too o both n);
        memory = little o both;
      }
