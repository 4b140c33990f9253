-- What is answered and left where a form was to be written, by the verdict and the room.
-- Assumes nothing.
use mathlib.Core.Path.{◌≡◌, refl, sym, ◌∙◌, ap, subst}
use mathlib.Core.Bool.{true, false, ◌||◌}
use mathlib.Core.List.{List}
use Prim.Native.Nat.{ℕ, ◌*◌, ◌<◌}
use native.Mathlib.Omega.{arith}
use lib.Dec.{eqb, ltb}
use lib.ListN.{length, take}
use borrow.Author.Tests.{eqb-true, eqb-false, lt-ltb}
use Rattle.lists.specs.Choice.{Is, is_true, is_false, look, or_left, or_right}
use Rattle.lists.proofs.Overwrite.{start_of}
use Rattle.formula.specs.Words.{width, table_of}
use Rattle.formula.specs.Form.{prefix_width}
use Rattle.refusals.specs.declared.Verdict.{Verdict}
use Rattle.refusals.specs.Verdict.{refusal, accepted}
use Rattle.refusals.specs.Outcome.{AnswerWith, Outcome, refused, done}
use Rattle.refusals.proofs.Outcome.{call_next, call_refused, call_room, call_short}
use Rattle.acceptance.specs.Verdict.{verdict}
use Rattle.acceptance.proofs.Accepted.{number_zero}
use Rattle.prenex_form.specs.declared.Sizes.{Sizes}
use Rattle.prenex_form.specs.Sizes.{sizes}
use Rattle.prenex_form.specs.Promise.{SizesOf}
use Rattle.prenex.specs.declared.Answer.{Answer}
use Rattle.prenex.specs.Outcome.{no_sizes, answer_of, FormBuffers, written_form, too_short, written, lifted, form_left, after}
use Rattle.lift_kept.specs.FormOutcome.{too_short_for, with_form, form_outcome, SizesAnswered, FormOwed}

-- What is answered where a form was to be written, by the verdict and the room.
module _ (form : FormBuffers) (s : Sizes) (before : FormBuffers) (v : Verdict) where
  pub form_refused : (v.number ≡ 0 → ⊥) → (r : Answer) → answer_of r ≡ refused v no_sizes → after r before ≡ form_outcome v form s before
  unfolding form_outcome
  form_refused n r e =
      ap (λ (a : AnswerWith Sizes). record { answer = a; buffers = before }) e ∙ sym (call_refused no_sizes before _ v n)

  pub form_short : v.number ≡ 0 → too_short_for form before ≡ true → (r : Answer) → answer_of r ≡ refused (refusal 9 0) no_sizes
      → after r before ≡ form_outcome v form s before
  unfolding form_outcome
  form_short z t r e =
      ap (λ (a : AnswerWith Sizes). record { answer = a; buffers = before }) e
      ∙ sym (call_short no_sizes before _ (too_short_for form before) t)
      ∙ sym (call_next no_sizes before _ v z)

  pub form_done : v.number ≡ 0 → too_short_for form before ≡ false → (r : Answer) → answer_of r ≡ done s → (held : FormBuffers) → held ≡ with_form form before
      → after r held ≡ form_outcome v form s before
  unfolding form_outcome
  form_done z t r e held w =
      (λ i. record { answer = e i; buffers = w i })
      ∙ sym (call_room no_sizes before _ (too_short_for form before) t)
      ∙ sym (call_next no_sizes before _ v z)

-- The number of an accepted table's verdict.
pub zero_number : (ws ls : List ℕ) → verdict ws ls ≡ accepted → (verdict ws ls).number ≡ 0
unfolding accepted
zero_number ws ls ok = ap (λ (w : Verdict). w.number) ok

-- The checker's refusal v, handed on.
pub refused_form : (ws ls : List ℕ) (v : Verdict) → v ≡ verdict ws ls → (v.number ≡ 0 → ⊥) → (r : Answer) → answer_of r ≡ refused v no_sizes
    → (form : FormBuffers) (s : Sizes) (before : FormBuffers) → after r before ≡ form_outcome (verdict ws ls) form s before
refused_form ws ls v is n r e form s before =
    form_refused form s before (verdict ws ls) (λ z. n (ap (λ (w : Verdict). w.number) is ∙ z)) r (e ∙ ap (λ (w : Verdict). refused w no_sizes) is)

-- What comes of lifting is what comes of a table of which the lift is to be written.
pub lifted_outcome : (ws ls : List ℕ) (before : FormBuffers)
    → lifted ws ls before ≡ form_outcome (verdict ws ls) (written_form (table_of ws ls)) (sizes (table_of ws ls)) before
unfolding lifted form_outcome too_short too_short_for written with_form
lifted_outcome ws ls before = refl

-- A buffer that is too short.
module _ (form before : FormBuffers) where
  pub short_prefix : length before.prefix < length form.prefix → too_short_for form before ≡ true
  unfolding too_short_for
  short_prefix h = or_left _ _ (or_right (ltb (length before.nodes) (length form.nodes)) _ (lt-ltb _ _ h))

  pub short_variables : length before.variables < length form.variables → too_short_for form before ≡ true
  unfolding too_short_for
  short_variables h =
      or_right
      (ltb (length before.nodes) (length form.nodes) || ltb (length before.prefix) (length form.prefix)) _
      (lt-ltb _ _ h)

-- A form that was to be written of a table with this verdict, where it is done.
module _ (v : Verdict) (form : FormBuffers) (s : Sizes) (before : FormBuffers) (o : Outcome Sizes FormBuffers)
    (e : o ≡ form_outcome v form s before) (z : o.answer.verdict.number ≡ 0) where
  abbrev outcome : Outcome Sizes FormBuffers
  outcome = record { answer = done s; buffers = with_form form before }

  pub outcome_done : (v.number ≡ 0) × (o ≡ outcome)
  unfolding form_outcome refused refusal
  outcome_done = by_verdict (look (eqb v.number 0))
    where
      by_room : v.number ≡ 0 → Is (too_short_for form before) → (v.number ≡ 0) × (o ≡ outcome)
      by_room n (is_true t) =
          let f = e ∙ call_next no_sizes before _ v n ∙ call_short no_sizes before _ (too_short_for form before) t in
          let g : o.answer.verdict.number ≡ 9 = ap (λ (p : Outcome Sizes FormBuffers). p.answer.verdict.number) f in
          absurd (omega arith)
      by_room n (is_false t) = (n, e ∙ call_next no_sizes before _ v n ∙ call_room no_sizes before _ (too_short_for form before) t)

      by_verdict : Is (eqb v.number 0) → (v.number ≡ 0) × (o ≡ outcome)
      by_verdict (is_true t) = by_room (eqb-true _ 0 t) (look (too_short_for form before))
      by_verdict (is_false t) =
          let n = eqb-false _ 0 t in
          absurd (n (sym (ap (λ (p : Outcome Sizes FormBuffers). p.answer.verdict.number) (e ∙ call_refused no_sizes before _ v n)) ∙ z))

  -- its sizes
  pub sizes_answered : o.answer.sizes ≡ s
  unfolding done
  sizes_answered = ap (λ (p : Outcome Sizes FormBuffers). p.answer.sizes) outcome_done.1

  -- what is left of it in the buffers is the form, if these are its sizes
  pub form_left_lem : SizesOf s form.nodes form.prefix form.variables → form_left o ≡ form
  unfolding with_form
  form_left_lem m =
      let d = outcome_done.1 in
      let a = sizes_answered in
      let n : take (width * o.answer.sizes.nodes) o.buffers.nodes ≡ form.nodes =
      ap (λ (k : ℕ). take k o.buffers.nodes) (ap (λ (y : Sizes). width * y.nodes) a)
      ∙ ap (take (width * s.nodes)) (ap (λ (p : Outcome Sizes FormBuffers). p.buffers.nodes) d)
      ∙ start_of before.nodes form.nodes _ m.nodes_measured in
      let p : take (prefix_width * o.answer.sizes.blocks) o.buffers.prefix ≡ form.prefix =
      ap (λ (k : ℕ). take k o.buffers.prefix) (ap (λ (y : Sizes). prefix_width * y.blocks) a)
      ∙ ap (take (prefix_width * s.blocks)) (ap (λ (p : Outcome Sizes FormBuffers). p.buffers.prefix) d)
      ∙ start_of before.prefix form.prefix _ m.blocks_measured in
      let x : take o.answer.sizes.entries o.buffers.variables ≡ form.variables =
      ap (λ (k : ℕ). take k o.buffers.variables) (ap (λ (y : Sizes). y.entries) a)
      ∙ ap (take s.entries) (ap (λ (p : Outcome Sizes FormBuffers). p.buffers.variables) d)
      ∙ start_of before.variables form.variables _ m.entries_measured in
      rw (n, p, x) refl

-- What is promised of sizes and form, by what holds of these.
module _ (ws ls : List ℕ) (form : FormBuffers) (s : Sizes) (m : SizesOf s form.nodes form.prefix form.variables)
    (before : FormBuffers) (o : Outcome Sizes FormBuffers) (e : o ≡ form_outcome (verdict ws ls) form s before) where
  pub outcome_sizes : SizesAnswered form o.answer
  unfolding SizesAnswered
  outcome_sizes z = rw (sizes_answered (verdict ws ls) form s before o e z) m

  pub outcome_form : (Owed : FormBuffers → Type 0) → (verdict ws ls ≡ accepted → Owed form) → FormOwed Owed o
  unfolding FormOwed
  outcome_form Owed owed z =
      subst Owed (sym (form_left_lem (verdict ws ls) form s before o e z m))
      (owed (number_zero ws ls (outcome_done (verdict ws ls) form s before o e z).0))
