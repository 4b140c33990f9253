-- What follows from the equations of measuring and lifting where they are done: the sizes are those written, and the buffers hold a
-- prenex form.
-- Assumes nothing.
use mathlib.Core.Path.{◌≡◌, refl, sym, ◌∙◌, ap, subst}
use mathlib.Core.List.{List}
use Prim.Native.Nat.{ℕ, ◌*◌}
use native.Mathlib.Omega.{arith}
use lib.Dec.{eqb}
use lib.ListN.{take}
use borrow.Author.Tests.{eqb-true, eqb-false}
use Rattle.lists.specs.Choice.{Is, is_true, is_false, look}
use Rattle.lists.proofs.Overwrite.{start_of}
use Rattle.formula.specs.Words.{width, table_of}
use Rattle.formula.specs.Form.{prefix_width}
use Rattle.refusals.specs.Verdict.{refusal, accepted}
use Rattle.refusals.specs.Outcome.{AnswerWith, Outcome, refused, done}
use Rattle.refusals.proofs.Outcome.{answer_next, answer_refused, call_next, call_refused, call_room, call_short}
use Rattle.acceptance.specs.Verdict.{verdict}
use Rattle.acceptance.proofs.Accepted.{number_zero}
use Rattle.prenex_form.specs.declared.Sizes.{Sizes}
use Rattle.prenex_form.specs.Matrix.{written_nodes}
use Rattle.prenex_form.specs.Prefix.{written_prefix, written_variables}
use Rattle.prenex_form.specs.Sizes.{sizes}
use Rattle.prenex_form.specs.Promise.{PrenexOf, SizesOf}
use Rattle.prenex_form.proofs.Theorem.{prenex, sizes_written}
use Rattle.prenex.specs.Outcome.{no_sizes, measured, FormBuffers, written_form, too_short, written, lifted, SizesWritten, form_left, FormWritten}

-- the verdict's number in an answer
abbrev number : AnswerWith Sizes → ℕ
number a = a.verdict.number

module _ (ws ls : List ℕ) where
  -- the sizes of a table, as they are answered
  sizes_are : (s : Sizes) → s ≡ sizes (table_of ws ls)
      → SizesOf s (written_nodes (table_of ws ls)) (written_prefix (table_of ws ls)) (written_variables (table_of ws ls))
  sizes_are s e = rw e (sizes_written (table_of ws ls))

  pub measured_sizes : (a : AnswerWith Sizes) → a ≡ measured ws ls → SizesWritten (table_of ws ls) a
  unfolding measured refused done SizesWritten
  measured_sizes a e z = go (look (eqb (verdict ws ls).number 0))
    where
      go : Is (eqb (verdict ws ls).number 0)
          → SizesOf a.sizes (written_nodes (table_of ws ls)) (written_prefix (table_of ws ls)) (written_variables (table_of ws ls))
      go (is_true t) =
          let n = eqb-true _ 0 t in
          sizes_are a.sizes (ap (λ (b : AnswerWith Sizes). b.sizes) (e ∙ answer_next (verdict ws ls) no_sizes _ n))
      go (is_false f) =
          let n = eqb-false _ 0 f in absurd (n (sym (ap number (e ∙ answer_refused (verdict ws ls) no_sizes _ n)) ∙ z))

  module _ (before : FormBuffers) (o : Outcome Sizes FormBuffers) (e : o ≡ lifted ws ls before) (z : o.answer.verdict.number ≡ 0) where
    -- a lift that is done
    lifted_is : (verdict ws ls ≡ accepted) × (o ≡ record { answer = done (sizes (table_of ws ls)); buffers = written (table_of ws ls) before })
    unfolding lifted refused refusal
    lifted_is = by_verdict (look (eqb (verdict ws ls).number 0))
      where
        by_room : (verdict ws ls).number ≡ 0 → Is (too_short (table_of ws ls) before)
            → (verdict ws ls ≡ accepted) × (o ≡ record { answer = done (sizes (table_of ws ls)); buffers = written (table_of ws ls) before })
        by_room n (is_true s) =
            let f = e ∙ call_next no_sizes before _ (verdict ws ls) n ∙ call_short no_sizes before _ (too_short (table_of ws ls) before) s in
            let g : o.answer.verdict.number ≡ 9 = ap (λ (p : Outcome Sizes FormBuffers). p.answer.verdict.number) f in
            absurd (omega arith)
        by_room n (is_false s) =
            (number_zero ws ls n, e ∙ call_next no_sizes before _ (verdict ws ls) n ∙ call_room no_sizes before _ (too_short (table_of ws ls) before) s)

        by_verdict : Is (eqb (verdict ws ls).number 0)
            → (verdict ws ls ≡ accepted) × (o ≡ record { answer = done (sizes (table_of ws ls)); buffers = written (table_of ws ls) before })
        by_verdict (is_true t) = by_room (eqb-true _ 0 t) (look (too_short (table_of ws ls) before))
        by_verdict (is_false f) =
            let n = eqb-false _ 0 f in
            absurd (n (sym (ap (λ (p : Outcome Sizes FormBuffers). p.answer.verdict.number) (e ∙ call_refused no_sizes before _ (verdict ws ls) n)) ∙ z))

    -- its sizes
    sizes_answered : o.answer.sizes ≡ sizes (table_of ws ls)
    unfolding done
    sizes_answered = ap (λ (p : Outcome Sizes FormBuffers). p.answer.sizes) lifted_is.1

  pub lifted_sizes : (before : FormBuffers) (o : Outcome Sizes FormBuffers) → o ≡ lifted ws ls before → SizesWritten (table_of ws ls) o.answer
  unfolding SizesWritten
  lifted_sizes before o e z = sizes_are o.answer.sizes (sizes_answered before o e z)

  -- what is left of it in the buffers is the written form
  pub lifted_left : (before : FormBuffers) (o : Outcome Sizes FormBuffers) → o ≡ lifted ws ls before → o.answer.verdict.number ≡ 0
      → form_left o ≡ written_form (table_of ws ls)
  unfolding written
  lifted_left before o e z =
      let t = table_of ws ls in
      let d = lifted_is before o e z in
      let m = sizes_written t in
      let s = sizes_answered before o e z in
      let n : take (width * o.answer.sizes.nodes) o.buffers.nodes ≡ written_nodes t =
      ap (λ (k : ℕ). take k o.buffers.nodes) (ap (λ (y : Sizes). width * y.nodes) s)
      ∙ ap (take (width * (sizes t).nodes)) (ap (λ (p : Outcome Sizes FormBuffers). p.buffers.nodes) d.1)
      ∙ start_of before.nodes (written_nodes t) _ m.nodes_measured in
      let p : take (prefix_width * o.answer.sizes.blocks) o.buffers.prefix ≡ written_prefix t =
      ap (λ (k : ℕ). take k o.buffers.prefix) (ap (λ (y : Sizes). prefix_width * y.blocks) s)
      ∙ ap (take (prefix_width * (sizes t).blocks)) (ap (λ (p : Outcome Sizes FormBuffers). p.buffers.prefix) d.1)
      ∙ start_of before.prefix (written_prefix t) _ m.blocks_measured in
      let v : take o.answer.sizes.entries o.buffers.variables ≡ written_variables t =
      ap (λ (k : ℕ). take k o.buffers.variables) (ap (λ (y : Sizes). y.entries) s)
      ∙ ap (take (sizes t).entries) (ap (λ (p : Outcome Sizes FormBuffers). p.buffers.variables) d.1)
      ∙ start_of before.variables (written_variables t) _ m.entries_measured in
      rw (n, p, v) refl

  pub lifted_form : (before : FormBuffers) (o : Outcome Sizes FormBuffers) → o ≡ lifted ws ls before → FormWritten (table_of ws ls) o
  unfolding FormWritten
  lifted_form before o e z =
      subst (λ form. PrenexOf (table_of ws ls) form.nodes form.prefix form.variables) (sym (lifted_left before o e z))
      (prenex ws ls (lifted_is before o e z).0)
