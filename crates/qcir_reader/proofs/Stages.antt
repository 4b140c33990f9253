-- The outcome of a file, stage by stage: what each refusal and each passed test makes of it.
-- Assumes nothing.
use mathlib.Core.Bool.{true, ◌||◌}
use mathlib.Core.List.{List, [], ◌∷◌}
use mathlib.Core.Path.{◌≡◌, refl, sym, ◌∙◌, ap, subst}
use Prim.Native.Nat.{ℕ, ◌*◌, ◌<◌, ◌≤◌}
use native.Mathlib.Omega.{arith}
use lib.Dec.{ltb, eqb-suc-zero}
use borrow.Author.Tests.{lt-ltb, le-ltb}
use lib.ListN.{length}
use Rattle.std.specs.Prelude.{None, Some}
use Rattle.std.proofs.lemmas.Option.{none-some, same_Some}
use Rattle.lists.specs.Choice.{pick_yes, pick_no, or_left, or_right, or_neither}
use Rattle.lists.specs.Parts.{overwrite}
use Rattle.lists.specs.Search.{lowest}
use Rattle.lists.proofs.Search.{lowest_before}
use Rattle.formula.specs.Words.{width, node_count}
use Rattle.refusals.specs.Verdict.{refusal, accepted}
use Rattle.refusals.specs.Outcome.{AnswerWith, refused, done}
use Rattle.refusals.specs.declared.Verdict.{Verdict}
use Rattle.refusals.proofs.Outcome.{call_next, call_refused, call_room, call_short}
use Rattle.acceptance.specs.Limits.{limit}
use Rattle.acceptance.specs.Verdict.{too_many_variables}
use Rattle.qcir.specs.File.{File}
use Rattle.qcir.specs.Refusals.{misplaced, not_used_once, unbound}
use Rattle.qcir.specs.Table.{table_words, table_list}
use Rattle.qcir.specs.FromText.{limits, unless_any, name_verdict, size_verdict, refused_text, of_table, of_file}
use Rattle.qcir.specs.Reading.{Written, Buffers, buffers, none_written, done_with, stored, file_outcome, table_outcome}
use Rattle.qcir.proofs.Theorem.{table_whole, table_few}
use Rattle.qcir_tokens.specs.Held.{found_of}
use Rattle.qcir_reader.specs.declared.Answer.{Answer}
use Rattle.qcir_reader.specs.Reads.{answer_of, after}

-- Nothing was found among no numbers only.
pub nothing_found : (xs : List ℕ) → None ≡ found_of xs → xs ≡ []
unfolding found_of
nothing_found [] e = refl
nothing_found (x ∷ xs) e = absurd (none-some _ e)

-- What was found is the refusal's position.
found_refuses : (n : ℕ) (xs : List ℕ) (number : ℕ) (next : Verdict) → Some n ≡ found_of xs → unless_any xs number next ≡ refusal number n
unfolding found_of unless_any
found_refuses n [] number next e = absurd (none-some _ (sym e))
found_refuses n (x ∷ xs) number next e = pick_no _ _ _ (eqb-suc-zero (length xs)) ∙ ap (refusal number) (sym (same_Some _ _ e))

none_passes : (xs : List ℕ) (number : ℕ) (next : Verdict) → xs ≡ [] → unless_any xs number next ≡ next
unfolding unless_any
none_passes xs number next e = subst (λ (ys : List ℕ). unless_any ys number next ≡ next) (sym e) (pick_yes _ _ _ refl)

-- The first of refusals 11, 13 and 12 that applies.
module _ (f : File) where
  pub misplaced_first : (n : ℕ) → Some n ≡ found_of (misplaced f) → refusal 11 n ≡ name_verdict f
  unfolding name_verdict
  misplaced_first n e = sym (found_refuses n (misplaced f) 11 _ e)

  pub misused_first : (n : ℕ) → misplaced f ≡ [] → Some n ≡ found_of (not_used_once f) → refusal 13 n ≡ name_verdict f
  unfolding name_verdict
  misused_first n m e = sym (none_passes (misplaced f) 11 _ m ∙ found_refuses n (not_used_once f) 13 _ e)

  pub unbound_first : (n : ℕ) → misplaced f ≡ [] → not_used_once f ≡ [] → Some n ≡ found_of (unbound f) → refusal 12 n ≡ name_verdict f
  unfolding name_verdict
  unbound_first n m u e =
      sym (none_passes (misplaced f) 11 _ m ∙ (none_passes (not_used_once f) 13 _ u ∙ found_refuses n (unbound f) 12 _ e))

  pub none_first : misplaced f ≡ [] → not_used_once f ≡ [] → unbound f ≡ [] → accepted ≡ name_verdict f
  unfolding name_verdict
  none_first m u b = sym (none_passes (misplaced f) 11 _ m ∙ (none_passes (not_used_once f) 13 _ u ∙ none_passes (unbound f) 12 _ b))

-- An answer that refuses.
abbrev pub Refuses : Answer → Verdict → Type 0
Refuses r v = answer_of r ≡ refused v none_written

-- The verdict that it hands on is this one.
pub refuses : (r : Answer) (v w : Verdict) → v ≡ w → Refuses r v → Refuses r w
refuses r v w e a = a ∙ ap (λ (u : Verdict). refused u none_written) e

-- It leaves the buffers.
pub refusal_after : (r : Answer) (v : Verdict) (words list : List ℕ) → Refuses r v → after r (buffers words list) ≡ refused_text none_written (buffers words list) v
unfolding refused_text
refusal_after r v words list e = ap (λ (a : AnswerWith Written). record { answer = a; buffers = buffers words list }) e

module _ (f : File) (words list : List ℕ) where
  abbrev before : Buffers
  before = buffers words list

  -- The verdict on the names is handed on, ..
  pub names_refuse : (r : Answer) (v : Verdict) → v ≡ name_verdict f → 0 < v.number → Refuses r v → after r before ≡ file_outcome limits f before
  unfolding of_file refused_text
  names_refuse r v e n a =
      refusal_after r v words list a ∙ sym (rw (sym e) (call_refused none_written before (table_outcome limits f before) v (λ z. omega (arith, n, z))))

  -- .. or they pass.
  pub names_pass_lem : (v : Verdict) → v ≡ name_verdict f → v.number ≤ 0 → table_outcome limits f before ≡ file_outcome limits f before
  unfolding of_file
  names_pass_lem v e n = sym (rw (sym e) (call_next none_written before (table_outcome limits f before) v (omega (arith, n))))

  size_refuses : (r : Answer) (number position : ℕ) → 0 < number → size_verdict limits (table_words f) ≡ refusal number position → Refuses r (refusal number position) → after r before ≡ table_outcome limits f before
  unfolding of_table stored refused_text refusal
  size_refuses r number position n e a =
      refusal_after r (refusal number position) words list a ∙ sym (rw e (call_refused none_written before _ (refusal number position) (λ z. omega arith)))

  pub many_nodes : (r : Answer) → limit < node_count (table_words f) → Refuses r (refusal 2 0) → after r before ≡ table_outcome limits f before
  unfolding size_verdict limits
  many_nodes r h = size_refuses r 2 0 (omega arith) (pick_yes _ _ _ (lt-ltb _ _ h))

  pub many_variables : (r : Answer) (i : ℕ) → node_count (table_words f) ≤ limit → i ≡ lowest (too_many_variables limit (table_words f)) (node_count (table_words f)) → i < node_count (table_words f) → Refuses r (refusal 6 i) → after r before ≡ table_outcome limits f before
  unfolding size_verdict limits
  many_variables r i n e h =
      size_refuses r 6 i (omega arith)
      (pick_no _ _ _ (le-ltb _ _ n) ∙ (pick_yes _ _ _ (lt-ltb _ _ (subst (λ (k : ℕ). k < node_count (table_words f)) e h)) ∙ ap (refusal 6) (sym e)))

  -- Neither refusal 2 nor 6 applies.
  pub record Within : Type 0 where
    pub nodes_within : node_count (table_words f) ≤ limit
    pub none_exceeding : node_count (table_words f) ≤ lowest (too_many_variables limit (table_words f)) (node_count (table_words f))

  -- The list is within the limit too.
  pub few_listed : Within → length (table_list f) ≤ limit
  few_listed w = table_few limit f (λ i h. lowest_before (too_many_variables limit (table_words f)) (node_count (table_words f)) i (omega (arith, h, w.none_exceeding)))

  within_passes : Within → (size_verdict limits (table_words f)).number ≡ 0
  unfolding size_verdict limits accepted
  within_passes w =
      ap (λ (v : Verdict). v.number) (pick_no _ _ _ (le-ltb _ _ w.nodes_within) ∙ pick_no _ _ _ (le-ltb _ _ w.none_exceeding))

  short_refuses : (r : Answer) → Within → (ltb (length words) (length (table_words f)) || ltb (length list) (length (table_list f))) ≡ true → Refuses r (refusal 9 0) → after r before ≡ table_outcome limits f before
  unfolding of_table stored refused_text
  short_refuses r w h a =
      refusal_after r (refusal 9 0) words list a
      ∙ sym (call_next none_written before _ (size_verdict limits (table_words f)) (within_passes w) ∙ call_short none_written before _ _ h)

  pub short_words : (r : Answer) → Within → length words < length (table_words f) → Refuses r (refusal 9 0) → after r before ≡ table_outcome limits f before
  short_words r w h = short_refuses r w (or_left _ _ (lt-ltb _ _ h))

  pub short_list : (r : Answer) → Within → length list < length (table_list f) → Refuses r (refusal 9 0) → after r before ≡ table_outcome limits f before
  short_list r w h = short_refuses r w (or_right (ltb (length words) (length (table_words f))) _ (lt-ltb _ _ h))

  pub stored_done : (v : Verdict) (n e : ℕ) (words' list' : List ℕ) → Within → length (table_words f) ≤ length words → length (table_list f) ≤ length list → v ≡ accepted → n ≡ node_count (table_words f) → e ≡ length (table_list f) → words' ≡ overwrite words 0 (table_words f) → list' ≡ overwrite list 0 (table_list f) → after (record { verdict = v; words = width * n; entries = e }) (buffers words' list') ≡ table_outcome limits f before
  unfolding of_table stored done_with done
  stored_done v n e words' list' w hw hl ev en ee ew el =
      (λ i. record {
        answer = record { verdict = ev i; sizes = record { words = (ap (λ (k : ℕ). width * k) en ∙ sym (table_whole f)) i; entries = ee i } };
        buffers = buffers (ew i) (el i);
      })
      ∙ sym (call_next none_written before _ (size_verdict limits (table_words f)) (within_passes w) ∙ call_room none_written before _ _ (or_neither _ _ (le-ltb _ _ hw) (le-ltb _ _ hl)))
