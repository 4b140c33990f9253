-- What the functions leave, at each of their returns, is what comes of the table or of the text.
-- Assumes nothing.
use mathlib.Core.Path.{◌≡◌, refl, sym, ◌∙◌, ap, subst}
use mathlib.Core.List.{List}
use Prim.Native.Nat.{ℕ, ◌*◌, ◌<◌, ◌≤◌}
use native.Mathlib.Omega.{arith}
use lib.Dec.{ltb}
use lib.ListN.{length, take}
use borrow.Author.Tests.{ltb-true, ltb-false, lt-ltb, le-ltb, eq-eqb, ne_eqb}
use Rattle.lists.specs.Choice.{pick_yes, pick_no, Is, is_true, is_false, look}
use Rattle.lists.specs.Parts.{overwrite}
use Rattle.formula.specs.Words.{width, table_of}
use Rattle.formula.specs.Form.{prefix_width}
use Rattle.refusals.specs.Verdict.{refusal, accepted}
use Rattle.refusals.specs.Outcome.{AnswerWith, Outcome, refused, done}
use Rattle.refusals.specs.declared.Verdict.{Verdict}
use Rattle.refusals.proofs.Outcome.{answer_next, call_next, call_room, call_short}
use Rattle.acceptance.specs.Verdict.{verdict}
use Rattle.prenex_form.specs.declared.Sizes.{Sizes}
use Rattle.prenex_form.specs.Matrix.{written_nodes}
use Rattle.prenex_form.specs.Prefix.{written_prefix, written_variables}
use Rattle.prenex_form.proofs.Theorem.{prenex}
use Rattle.prenex.specs.declared.Answer.{Answer as Measure}
use Rattle.prenex.specs.Outcome.{no_sizes, measured}
use Rattle.form_check.specs.Verdict.{form_verdict}
use Rattle.form_texts.specs.Writing.{text_outcome, answer_of as text_answer_of, after as text_after}
use Rattle.form_texts.specs.declared.Answer.{Answer as TextAnswer}
use Rattle.form_writer.specs.Formats.{text_as}
use Rattle.qcir.specs.FromText.{limits, refused_text}
use Rattle.qcir.specs.Reading.{Written as ReadSizes, Buffers, buffers, Reading, TableWritten}
use Rattle.file_to_file.proofs.Passes.{lift_passes}
use Rattle.text_answers.specs.declared.Answer.{Answer}
use Rattle.form_writer.specs.declared.Format.{Format}
use Rattle.lift_text.specs.Formats.{lifted_as}
use Rattle.text_answers.specs.Answers.{TextSizes, no_text_sizes, answer_of, of_writing}
use Rattle.lift_text.specs.Lifting.{after, written_as, Lifting, LiftsText}
use Rattle.lift_text.specs.Memory.{Lent, lent, after_in, text_of, beside, written_in, LiftingIn, LiftsTextIn}
use Rattle.lift_text.specs.Measuring.{measured_table, Measuring, MeasuresText}
use Rattle.lift_text.proofs.Form.{nodes_most, Short, Lifts}
use Rattle.lift_text.proofs.Promise.{lifted_as_lem, is_short, is_done_lem, lifts_text}
use Rattle.lift_text.proofs.Texts.{read_refused, read_done}
use Rattle.lift_text.proofs.Memory.{no_memory, has_memory, never_memory, lifts_in}
use Rattle.lift_text.proofs.Measuring.{measures_text}

module _ (ws ls : List ℕ) (ok : verdict ws ls ≡ accepted) (format : Format) (nodes nodes' out : List ℕ) where
  abbrev before : Lent
  before = lent nodes out

  -- An answer that refuses.
  handed : (r : Answer) (v w : Verdict) (held : Lent) → v ≡ w → answer_of r ≡ refused v no_text_sizes → after_in r held ≡ refused_text no_text_sizes held w
  unfolding refused_text
  handed r v w held e a = ap (λ (b : AnswerWith TextSizes). record { answer = b; buffers = held }) (a ∙ ap (λ (u : Verdict). refused u no_text_sizes) e)

  -- There is no memory for the nodes.
  pub short_memory : Short ws ls ok nodes nodes' → (r : Answer) (v : Verdict) → v ≡ refusal 24 0 → answer_of r ≡ refused v no_text_sizes
      → after_in r (lent nodes' out) ≡ written_in format (lent nodes out) ws ls
  short_memory s r v e a =
      ap (λ (l : List ℕ). after_in r (lent l out)) s.unchanged ∙ handed r v _ before e a ∙ sym (no_memory format before ws ls s.no_room)

  module _ (m : Measure) (prefix' variables' out' : List ℕ) (l : Lifts ws ls ok m nodes nodes' prefix' variables') (a : TextAnswer)
      (w : text_after a out' ≡ text_outcome (form_verdict (take (width * m.sizes.nodes) nodes') (take (prefix_width * m.sizes.blocks) prefix') (take m.sizes.entries variables'))
      (text_as format (take (width * m.sizes.nodes) nodes') (take (prefix_width * m.sizes.blocks) prefix') (take m.sizes.entries variables')) out) where
    -- The writer wrote the text of the form, ..
    text_is : text_after a out' ≡ text_outcome accepted (lifted_as format ws ls) out
    text_is =
        let t = table_of ws ls in
        w ∙ (λ i. text_outcome (form_verdict (l.nodes_are i) (l.prefix_is i) (l.variables_are i)) (text_as format (l.nodes_are i) (l.prefix_is i) (l.variables_are i)) out)
        ∙ ap (λ (v : Verdict). text_outcome v (text_as format (written_nodes t) (written_prefix t) (written_variables t)) out) (lift_passes t _ _ _ (prenex ws ls ok))
        ∙ ap (λ (x : List ℕ). text_outcome accepted x out) (lifted_as_lem format ws ls)

    -- .. or had no room for it.
    text_short : length out < length (lifted_as format ws ls) → text_after a out' ≡ record { answer = refused (refusal 9 0) 0; buffers = out }
    unfolding text_outcome accepted
    text_short h = text_is ∙ call_next 0 out _ accepted refl ∙ call_short 0 out _ _ (lt-ltb _ _ h)

    text_done : length (lifted_as format ws ls) ≤ length out → text_after a out' ≡ record { answer = done (length (lifted_as format ws ls)); buffers = overwrite out 0 (lifted_as format ws ls) }
    unfolding text_outcome accepted
    text_done h = text_is ∙ call_next 0 out _ accepted refl ∙ call_room 0 out _ _ (le-ltb _ _ h)

    pub text_call : (r : Answer) → answer_of r ≡ of_writing a m.sizes → after_in r (lent nodes' out') ≡ written_in format (lent nodes out) ws ls
    unfolding text_answer_of refusal refused done accepted refused_text of_writing
    text_call r e = go (look (ltb (length out) (length (lifted_as format ws ls))))
      where
        go : Is (ltb (length out) (length (lifted_as format ws ls))) → after_in r (lent nodes' out') ≡ written_in format (lent nodes out) ws ls
        go (is_true t) =
            let h = ltb-true _ _ t in
            let d = text_short h in
            let n : a.number ≡ 9 = ap (λ (o : Outcome ℕ (List ℕ)). o.answer.verdict.number) d in
            let b = e ∙ pick_no _ _ _ (ne_eqb a.number 0 (λ z. omega (arith, n, z))) in
            (λ i. record { answer = b i; buffers = lent (l.nodes_over i) (d i).buffers })
            ∙ sym (has_memory format before ws ls l.room ∙ ap (beside _) (is_short format out ws ls h))
        go (is_false t) =
            let h = ltb-false _ _ t in
            let d = text_done h in
            let b = e ∙ pick_yes _ _ _ (eq-eqb a.number 0 (ap (λ (o : Outcome ℕ (List ℕ)). o.answer.verdict.number) d)) in
            ap (λ (b : AnswerWith TextSizes). record { answer = b; buffers = lent nodes' out' }) b
            ∙ (λ i. record {
              answer = done (record { bytes = (d i).answer.sizes; table = l.sizes_are i });
              buffers = lent (l.nodes_over i) (d i).buffers;
            })
            ∙ sym (has_memory format before ws ls l.room ∙ ap (beside _) (is_done_lem format out ws ls h))

-- What is left of the text where lent memory is there for the form's nodes, and where it is not.
module _ (ws ls : List ℕ) (ok : verdict ws ls ≡ accepted) (format : Format) (nodes out : List ℕ) (o : Outcome TextSizes Lent) (e : o ≡ written_in format (lent nodes out) ws ls) where
  with_room : length (written_nodes (table_of ws ls)) ≤ length nodes → text_of o ≡ written_as format out ws ls
  with_room h = ap text_of (e ∙ has_memory format (lent nodes out) ws ls h)

  -- Memory for every form's nodes is there.
  pub text_alone : length nodes ≡ 163840 → text_of o ≡ written_as format out ws ls
  text_alone many = with_room (omega (arith, nodes_most ws ls ok, many))

  -- Less of it is there, or the call is refused by 24.
  pub text_unless : (o.answer.verdict.number ≡ 24 → ⊥) → text_of o ≡ written_as format out ws ls
  unfolding refused_text refused refusal
  text_unless n = go (look (ltb (length nodes) (length (written_nodes (table_of ws ls)))))
    where
      go : Is (ltb (length nodes) (length (written_nodes (table_of ws ls)))) → text_of o ≡ written_as format out ws ls
      go (is_true t) = absurd (n (ap (λ (q : Outcome TextSizes Lent). q.answer.verdict.number) (e ∙ no_memory format (lent nodes out) ws ls (ltb-true _ _ t))))
      go (is_false t) = with_room (ltb-false _ _ t)

  pub text_kept : o.answer.verdict.number ≡ 24 → o.buffers.out ≡ out
  unfolding refused_text
  text_kept z = go (look (ltb (length nodes) (length (written_nodes (table_of ws ls)))))
    where
      go : Is (ltb (length nodes) (length (written_nodes (table_of ws ls)))) → o.buffers.out ≡ out
      go (is_true t) = ap (λ (q : Outcome TextSizes Lent). q.buffers.out) (e ∙ no_memory format (lent nodes out) ws ls (ltb-true _ _ t))
      go (is_false t) =
          absurd (never_memory format (lent nodes out) ws ls (sym (ap (λ (q : Outcome TextSizes Lent). q.answer.verdict.number) (e ∙ has_memory format (lent nodes out) ws ls (ltb-false _ _ t))) ∙ z))

-- What `lift_text`, `lift_text_in` and `measure_text` owe, where reading refused and where it is done.
module _ (format : Format) (text before words list : List ℕ) (wide : length words ≡ 16384) (long : length list ≡ 4096) where
  pub refused_lift : (o : Outcome ReadSizes Buffers) → Reading limits text (buffers words list) o → (o.answer.verdict.number ≡ 0 → ⊥)
      → (r : Answer) → answer_of r ≡ refused o.answer.verdict no_text_sizes → LiftsText format text before (after r before)
  unfolding refused_text
  refused_lift o reading n r e =
      lifts_text format text before _
      (subst (λ (a : AnswerWith TextSizes). Lifting format text before (record { answer = a; buffers = before })) (sym e)
      (read_refused words list wide long text no_text_sizes before (written_as format before) o reading n))

  pub done_lift : (o : Outcome ReadSizes Buffers) → Reading limits text (buffers words list) o → o.answer.verdict.number ≡ 0
      → (p : Outcome TextSizes (List ℕ)) → p ≡ written_as format before (take o.answer.sizes.words o.buffers.words) (take o.answer.sizes.entries o.buffers.list)
      → LiftsText format text before p
  done_lift o reading z p e =
      lifts_text format text before p
      (subst (Lifting format text before) (sym e) (read_done words list wide long text no_text_sizes before (written_as format before) o reading z).goes_on)

module _ (format : Format) (text : List ℕ) (before : Lent) (words list : List ℕ) (wide : length words ≡ 16384) (long : length list ≡ 4096) where
  pub refused_call : (o : Outcome ReadSizes Buffers) → Reading limits text (buffers words list) o → (o.answer.verdict.number ≡ 0 → ⊥)
      → (r : Answer) → answer_of r ≡ refused o.answer.verdict no_text_sizes → LiftsTextIn format text before (after_in r before)
  unfolding refused_text
  refused_call o reading n r e =
      lifts_in format text before _
      (subst (λ (a : AnswerWith TextSizes). LiftingIn format text before (record { answer = a; buffers = before })) (sym e)
      (read_refused words list wide long text no_text_sizes before (written_in format before) o reading n))

  pub done_call : (o : Outcome ReadSizes Buffers) → Reading limits text (buffers words list) o → o.answer.verdict.number ≡ 0
      → (p : Outcome TextSizes Lent) → p ≡ written_in format before (take o.answer.sizes.words o.buffers.words) (take o.answer.sizes.entries o.buffers.list)
      → LiftsTextIn format text before p
  done_call o reading z p e =
      lifts_in format text before p
      (subst (LiftingIn format text before) (sym e) (read_done words list wide long text no_text_sizes before (written_in format before) o reading z).goes_on)

module _ (text words list : List ℕ) (wide : length words ≡ 16384) (long : length list ≡ 4096) where
  pub refused_measure : (o : Outcome ReadSizes Buffers) → Reading limits text (buffers words list) o → (o.answer.verdict.number ≡ 0 → ⊥)
      → (a : AnswerWith Sizes) → a ≡ refused o.answer.verdict no_sizes → MeasuresText text a
  unfolding refused_text
  refused_measure o reading n a e =
      measures_text text a
      (subst (Measuring text) (sym e) (read_refused words list wide long text no_sizes tt measured_table o reading n))

  pub done_measure : (o : Outcome ReadSizes Buffers) → Reading limits text (buffers words list) o → o.answer.verdict.number ≡ 0 → TableWritten limits.names text o
      → (a : AnswerWith Sizes) → a ≡ measured (take o.answer.sizes.words o.buffers.words) (take o.answer.sizes.entries o.buffers.list)
      → MeasuresText text a
  unfolding TableWritten measured measured_table accepted
  done_measure o reading z table a e =
      let s = e ∙ answer_next _ no_sizes _ (ap (λ (v : Verdict). v.number) (table z).accepts) in
      measures_text text a
      (subst (Measuring text) (sym s) (read_done words list wide long text no_sizes tt measured_table o reading z).goes_on)
