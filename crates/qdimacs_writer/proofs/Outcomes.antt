-- What writing answers and leaves, by the laws of every text.
-- Assumes nothing.
use mathlib.Core.Path.{◌≡◌, refl, ap}
use mathlib.Core.List.{List, ◌++◌}
use Prim.Native.Nat.{ℕ, ◌/◌, ◌<◌, ◌≤◌}
use lib.ListN.{length}
use Rattle.formula.specs.Words.{node_count}
use Rattle.formula.specs.Form.{prefix_width}
use Rattle.refusals.specs.declared.Verdict.{Verdict}
use Rattle.refusals.specs.Outcome.{AnswerWith, Outcome, refused}
use Rattle.form_check.specs.Verdict.{form_verdict}
use Rattle.form_check.specs.Accepted.{AcceptedForm}
use Rattle.form_check.specs.Answer.{refusal_of}
use Rattle.form_check.specs.declared.Malformed.{Malformed}
use Rattle.form_texts.specs.declared.Answer.{Answer}
use Rattle.form_texts.specs.Writing.{answer_of, after}
use Rattle.form_texts.proofs.Outcomes as outcomes
use Rattle.texts.specs.Put.{Put}
use Rattle.qdimacs_form.specs.Clauses.{clauses_text}
use Rattle.qdimacs_form.specs.Laws.{room_for}
use Rattle.qdimacs_form.specs.Promise.{ClausesOf}
use Rattle.qdimacs_form.proofs.Room.{text_room}
use Rattle.qdimacs_form.proofs.Theorem.{clauses_written}
use Rattle.qdimacs_writer.specs.Writing.{write_outcome, ClausesWritten, RoomSuffices}

-- Answers of the same number, position and bytes are the same: an answer is compared field by field, so that an edit of one falls at its value.
pub same_answer : (r s : Answer) → r.number ≡ s.number → r.position ≡ s.position → r.bytes ≡ s.bytes → answer_of r ≡ answer_of s
unfolding answer_of
same_answer r s n p k = rw (n, p, k) refl

-- A refusal has no bytes.
pub no_bytes : (r : Answer) (v : Verdict) → answer_of r ≡ refused v 0 → r.bytes ≡ 0
unfolding answer_of refused
no_bytes r v e = ap (λ (a : AnswerWith ℕ). a.sizes) e

module _ (ns ps xs before : List ℕ) where
  pub is_refused : (fault : Malformed) → refusal_of fault ≡ form_verdict ns ps xs → (r : Answer) → answer_of r ≡ refused (refusal_of fault) 0
      → after r before ≡ write_outcome ns ps xs before
  unfolding write_outcome
  is_refused = outcomes.is_refused ns ps xs (clauses_text ns ps xs) before

  pub lines_short : (part lent : List ℕ) (n : ℕ) → AcceptedForm ns ps xs → Put lent 0 (clauses_text ns ps xs) part n → length lent ≡ 0 → length before < n
      → after (record { number = 9; position = 0; bytes = 0 }) (part ++ before) ≡ write_outcome ns ps xs before
  unfolding write_outcome
  lines_short = outcomes.lines_short ns ps xs (clauses_text ns ps xs) before

  pub lines_done : (part lent last : List ℕ) (n m : ℕ) → AcceptedForm ns ps xs → Put lent 0 (clauses_text ns ps xs) part n → length lent ≡ 0
      → n ≤ length before → Put (part ++ before) 0 (clauses_text ns ps xs) last m
      → after (record { number = 0; position = 0; bytes = n }) last ≡ write_outcome ns ps xs before
  unfolding write_outcome
  lines_done = outcomes.lines_done ns ps xs (clauses_text ns ps xs) before

  pub promised : (o : Outcome ℕ (List ℕ)) → o ≡ write_outcome ns ps xs before
      → (o ≡ write_outcome ns ps xs before) × (ClausesWritten ns ps xs o × RoomSuffices ns ps xs before o)
  unfolding write_outcome ClausesWritten RoomSuffices
  promised =
      outcomes.promised ns ps xs (clauses_text ns ps xs) before (ClausesOf ns ps xs) (clauses_written ns ps xs)
      (room_for (node_count ns) (length ps / prefix_width) (length xs)) (text_room ns ps xs)
