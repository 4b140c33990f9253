-- Which outcome it is, by the verdict and the room.
-- Assumes nothing.
use mathlib.Core.Path.{◌≡◌, sym, ◌∙◌, ap}
use mathlib.Core.Bool.{true, false, ◌||◌}
use mathlib.Core.List.{List}
use Prim.Native.Nat.{ℕ, ◌<◌}
use lib.Dec.{ltb}
use lib.ListN.{length}
use borrow.Author.Tests.{lt-ltb, le-ltb}
use Rattle.lists.specs.Choice.{or_neither, or_left, or_right}
use Rattle.formula.specs.Node.{Table}
use Rattle.formula.specs.Words.{table_of}
use Rattle.refusals.specs.declared.Verdict.{Verdict}
use Rattle.refusals.specs.Verdict.{refusal, accepted}
use Rattle.refusals.specs.Outcome.{AnswerWith, refused, done}
use Rattle.refusals.proofs.Outcome.{answer_next, answer_refused, call_next, call_refused, call_room, call_short}
use Rattle.acceptance.specs.Verdict.{verdict}
use Rattle.acceptance.proofs.Accepted.{number_zero}
use Rattle.prenex_form.specs.declared.Sizes.{Sizes}
use Rattle.prenex_form.specs.Matrix.{written_nodes}
use Rattle.prenex_form.specs.Prefix.{written_prefix, written_variables}
use Rattle.prenex_form.specs.Sizes.{sizes}
use Rattle.prenex.specs.declared.Answer.{Answer}
use Rattle.prenex.specs.Arrays.{Room, Written}
use Rattle.prenex.specs.Outcome.{no_sizes, answer_of, measured, FormBuffers, buffers, too_short, written, lifted, after}

-- The checker's answer v to the table of ws and ls.
module _ (ws ls : List ℕ) (v : Verdict) (is : v ≡ verdict ws ls) where
  number_is : v.number ≡ (verdict ws ls).number
  number_is = ap (λ (w : Verdict). w.number) is

  -- it is no refusal
  pub accepted_by : v.number ≡ 0 → verdict ws ls ≡ accepted
  accepted_by e = number_zero ws ls (sym number_is ∙ e)

  module _ (n : v.number ≡ 0 → ⊥) (r : Answer) (e : answer_of r ≡ refused v no_sizes) where
    handed_on : answer_of r ≡ refused (verdict ws ls) no_sizes
    handed_on = e ∙ ap (λ (w : Verdict). refused w no_sizes) is

    pub measured_refused : answer_of r ≡ measured ws ls
    unfolding measured
    measured_refused = handed_on ∙ sym (answer_refused (verdict ws ls) no_sizes _ (λ z. n (number_is ∙ z)))

    pub lifted_refused : (before : FormBuffers) → after r before ≡ lifted ws ls before
    unfolding lifted
    lifted_refused before =
        ap (λ (a : AnswerWith Sizes). record { answer = a; buffers = before }) handed_on
        ∙ sym (call_refused no_sizes before _ (verdict ws ls) (λ z. n (number_is ∙ z)))

-- Room.

pub room_enough : (ws ls nodes prefix variables : List ℕ) → Room ws ls nodes prefix variables → too_short (table_of ws ls) (buffers nodes prefix variables) ≡ false
unfolding too_short
room_enough ws ls nodes prefix variables room =
    or_neither _ _ (or_neither _ _ (le-ltb _ _ room.nodes_fit) (le-ltb _ _ room.prefix_fits)) (le-ltb _ _ room.variables_fit)

module _ (t : Table) (before : FormBuffers) where
  pub short_nodes : length before.nodes < length (written_nodes t) → too_short t before ≡ true
  unfolding too_short
  short_nodes h = or_left _ _ (or_left _ _ (lt-ltb _ _ h))

  pub short_prefix : length before.prefix < length (written_prefix t) → too_short t before ≡ true
  unfolding too_short
  short_prefix h = or_left _ _ (or_right (ltb (length before.nodes) (length (written_nodes t))) _ (lt-ltb _ _ h))

  pub short_variables : length before.variables < length (written_variables t) → too_short t before ≡ true
  unfolding too_short
  short_variables h =
      or_right
      (ltb (length before.nodes) (length (written_nodes t)) || ltb (length before.prefix) (length (written_prefix t))) _
      (lt-ltb _ _ h)

-- An accepted table.
module _ (ws ls : List ℕ) (ok : verdict ws ls ≡ accepted) where
  zero_number : (verdict ws ls).number ≡ 0
  unfolding accepted
  zero_number = ap (λ (w : Verdict). w.number) ok

  pub measured_done : (r : Answer) (s : Sizes) → answer_of r ≡ done s → s ≡ sizes (table_of ws ls) → answer_of r ≡ measured ws ls
  unfolding measured
  measured_done r s e f = e ∙ ap done f ∙ sym (answer_next (verdict ws ls) no_sizes _ zero_number)

  -- refused for want of room
  pub lifted_short : (before : FormBuffers) → too_short (table_of ws ls) before ≡ true → (r : Answer) → answer_of r ≡ refused (refusal 9 0) no_sizes
      → after r before ≡ lifted ws ls before
  unfolding lifted
  lifted_short before s r e =
      ap (λ (a : AnswerWith Sizes). record { answer = a; buffers = before }) e
      ∙ sym (call_short no_sizes before _ (too_short (table_of ws ls) before) s)
      ∙ sym (call_next no_sizes before _ (verdict ws ls) zero_number)

  -- done
  pub lifted_done : (nodes prefix variables : List ℕ) → Room ws ls nodes prefix variables → (r : Answer) (s : Sizes) → answer_of r ≡ done s → s ≡ sizes (table_of ws ls)
      → (nodes' prefix' variables' : List ℕ) → Written ws ls nodes prefix variables nodes' prefix' variables'
      → after r (buffers nodes' prefix' variables') ≡ lifted ws ls (buffers nodes prefix variables)
  unfolding lifted written
  lifted_done nodes prefix variables room r s e f nodes' prefix' variables' w =
      let g = e ∙ ap done f in
      let before = buffers nodes prefix variables in
      let p : after r (buffers nodes' prefix' variables') ≡ record { answer = done (sizes (table_of ws ls)); buffers = written (table_of ws ls) before }
      = λ i. record { answer = g i; buffers = record { nodes = w.nodes_are i; prefix = w.prefix_is i; variables = w.variables_are i } } in
      p
      ∙ sym (call_room no_sizes before _ (too_short (table_of ws ls) before) (room_enough ws ls nodes prefix variables room))
      ∙ sym (call_next no_sizes before _ (verdict ws ls) zero_number)
