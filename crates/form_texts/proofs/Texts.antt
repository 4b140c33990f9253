-- Which way the writing of a text goes, by a verdict and the room.
-- Assumes nothing.
use mathlib.Core.Path.{◌≡◌, refl, sym, ◌∙◌, ap, subst}
use mathlib.Core.List.{List, [], ◌∷◌, ◌++◌}
use Prim.Native.Nat.{ℕ, ◌+◌, ◌<◌, ◌≤◌}
use native.Mathlib.Omega.{arith}
use lib.Dec.{ltb}
use lib.ListN.{length}
use borrow.Author.Tests.{lt-ltb, le-ltb}
use Rattle.lists.specs.Parts.{overwrite}
use Rattle.refusals.specs.Verdict.{refusal, accepted}
use Rattle.refusals.specs.Outcome.{AnswerWith, Outcome, done, refused, unless_short}
use Rattle.refusals.specs.declared.Verdict.{Verdict}
use Rattle.refusals.proofs.Outcome.{call_next, call_refused, call_room, call_short}
use Rattle.texts.specs.Put.{Put}
use Rattle.form_texts.specs.declared.Answer.{Answer}
use Rattle.form_texts.specs.Writing.{text_outcome, answer_of, after}

no_elements : (l : List ℕ) → length l ≡ 0 → l ≡ []
no_elements [] e = refl
no_elements (x ∷ l) e = absurd (omega (arith, e))

module _ (text before : List ℕ) where
  unfoldable pub written : Outcome ℕ (List ℕ)
  written = record { answer = done (length text); buffers = overwrite before 0 text }

  -- what comes after the verdict
  unfoldable pub roomy : Outcome ℕ (List ℕ)
  roomy = unless_short (ltb (length before) (length text)) 0 before written

  module _ (v : Verdict) where
    pub text_refused : (number position : ℕ) → refusal number position ≡ v → (number ≡ 0 → ⊥)
        → after (record { number = number; position = position; bytes = 0 }) before ≡ text_outcome v text before
    unfolding text_outcome answer_of refused refusal written roomy
    text_refused number position e n = rw (← e) (sym (call_refused 0 before roomy (refusal number position) n))

    pub text_accepted : v ≡ accepted → text_outcome v text before ≡ roomy
    unfolding text_outcome written roomy accepted
    text_accepted e = call_next 0 before roomy v (ap (λ (v : Verdict). v.number) e)

    text_short : v ≡ accepted → length before < length text
        → after (record { number = 9; position = 0; bytes = 0 }) before ≡ text_outcome v text before
    unfolding answer_of refused roomy
    text_short e h = sym (text_accepted e ∙ call_short 0 before written _ (lt-ltb _ _ h))

    text_done : v ≡ accepted → length text ≤ length before
        → after (record { number = 0; position = 0; bytes = length text }) (overwrite before 0 text) ≡ text_outcome v text before
    unfolding answer_of done accepted refusal written roomy
    text_done e h = sym (text_accepted e ∙ call_room 0 before written _ (le-ltb _ _ h))

    -- A walk over a part without bytes tells the size, and leaves the part without bytes.
    pub counted_short : (part lent : List ℕ) (n : ℕ) → v ≡ accepted → Put lent 0 text part n → length lent ≡ 0 → length before < n
        → after (record { number = 9; position = 0; bytes = 0 }) (part ++ before) ≡ text_outcome v text before
    counted_short part lent n e put none h =
        rw (no_elements part (put.kept ∙ none)) (text_short e (omega (arith, put.counted, h)))

    -- The walk over the buffer, which has room, writes the text.
    pub counted_done : (part lent last : List ℕ) (n m : ℕ) → v ≡ accepted → Put lent 0 text part n → length lent ≡ 0
        → n ≤ length before → Put (part ++ before) 0 text last m
        → after (record { number = 0; position = 0; bytes = n }) last ≡ text_outcome v text before
    counted_done part lent last n m e put none h over =
        let size : n ≡ length text = omega (arith, put.counted) in
        let room : 0 + length text ≤ length before = omega (arith, size, h) in
        let over' : Put before 0 text last m =
        subst (λ (l : List ℕ). Put (l ++ before) 0 text last m) (no_elements part (put.kept ∙ none)) over in
        rw (size, over'.held room) (text_done e (omega (arith, room)))

-- what is promised of an answer holds of an equal one
pub write_said : (P : Outcome ℕ (List ℕ) → Type 0) (held : List ℕ) (r : Answer) (a : AnswerWith ℕ) → a ≡ answer_of r
    → P (after r held) → P (record { answer = a; buffers = held })
write_said P held r a e h = subst (λ (x : AnswerWith ℕ). P (record { answer = x; buffers = held })) (sym e) h
