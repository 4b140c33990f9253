-- What reading a text promises, from what the machine and the stages say of it.
-- Assumes nothing.
use mathlib.Core.Bool.{Bool, true, false, ◌||◌}
use mathlib.Core.List.{List, [], ◌∷◌}
use mathlib.Core.Path.{◌≡◌, refl, sym, ◌∙◌, ap, subst}
use Prim.Native.Nat.{ℕ, ◌≤◌, ◌<◌}
use native.Mathlib.Omega.{arith}
use lib.Dec.{ltb, eqb-suc-zero, lit<, lit≤}
use lib.ListN.{length, take}
use borrow.Author.Tests.{ltb-false}
use Rattle.lists.specs.Choice.{pick, pick_no, or_neither_left, or_neither_right}
use Rattle.lists.specs.Search.{lowest}
use Rattle.lists.specs.Parts.{overwrite}
use Rattle.lists.proofs.Search.{lowest_before}
use Rattle.lists.proofs.Overwrite.{start_of}
use Rattle.formula.specs.Words.{node_count, table_of}
use Rattle.formula.specs.Truth.{truth}
use Rattle.refusals.specs.Verdict.{refusal}
use Rattle.refusals.specs.Outcome.{AnswerWith, Outcome, refused, done, unless_short}
use Rattle.refusals.specs.declared.Verdict.{Verdict}
use Rattle.refusals.proofs.Outcome.{call_next, call_room, call_passed, call_fits}
use Rattle.acceptance.specs.Limits.{limit}
use Rattle.acceptance.specs.Verdict.{too_many_variables}
use Rattle.qcir.specs.File.{File}
use Rattle.qcir.specs.Spelling.{Spells, SpellingFault}
use Rattle.qcir.specs.Meaning.{file_truth}
use Rattle.qcir.specs.Refusals.{least, misplaced, not_used_once}
use Rattle.qcir.specs.Table.{table_words, table_list}
use Rattle.qcir.specs.FromText.{limits, unless_any, name_verdict, size_verdict, refused_text, of_table, of_file, too_long, misspelled, spelled}
use Rattle.qcir.specs.Reading.{Written, Buffers, buffers, none_written, done_with, stored, file_outcome, table_outcome, Reading, TableOf, TableWritten}
use Rattle.qcir.proofs.Theorem.{table_whole, table_few, table_truth, table_accepted}
use Rattle.qcir_tokens.specs.Held.{tokens_from, Room, token_limit, HoldsFile}
use Rattle.qcir_spelling.specs.Machine.{accepts, alive, start, tokens_of}
use Rattle.qcir_reader.specs.declared.Answer.{Answer}
use Rattle.qcir_reader.specs.Reads.{after, Reads}
use Rattle.qcir_spelling.proofs.Spelling.{complete, refused as misspelt, unique, ordered, ranged}
use Rattle.qcir_reader.proofs.Numbers.{numbers_ranged}
use Rattle.qcir_reader.proofs.Stages.{Refuses, refusal_after}
use Rattle.qcir_reader.proofs.Unique.{only_one}

-- Of a verdict that accepts: no number is at fault, and what comes next accepts.
passed_any : (xs : List ℕ) (number : ℕ) (next : Verdict) → 0 < number → (unless_any xs number next).number ≡ 0 → (xs ≡ []) × (next.number ≡ 0)
unfolding unless_any refusal pick
passed_any [] number next h z = (refl, z)
passed_any (x ∷ xs) number next h z = absurd (omega (arith, sym (ap (λ (v : Verdict). v.number) (pick_no _ next (refusal number (least (x ∷ xs))) (eqb-suc-zero (length xs)))) ∙ z))

passed_test : (t : Bool) (number position : ℕ) (next : Verdict) → 0 < number → (pick t (refusal number position) next).number ≡ 0 → (t ≡ false) × (next.number ≡ 0)
unfolding pick refusal
passed_test true number position next h z = absurd (omega arith)
passed_test false number position next h z = (refl, z)

-- A file that no refusal but 9 applies to.
pub record Passed (f : File) : Type 0 where
  pub placed : misplaced f ≡ []
  pub used_once : not_used_once f ≡ []
  pub few_nodes : node_count (table_words f) ≤ limit
  pub none_exceeding : (i : ℕ) → i < node_count (table_words f) → too_many_variables limit (table_words f) i ≡ false

pub passed : (f : File) → (name_verdict f).number ≡ 0 → (size_verdict limits (table_words f)).number ≡ 0 → Passed f
unfolding name_verdict size_verdict limits
passed f a b =
    let ws = table_words f in
    let n = node_count ws in
    let placed = passed_any (misplaced f) 11 _ (lit< tt) a in
    let used = passed_any (not_used_once f) 13 _ (lit< tt) placed.1 in
    let nodes = passed_test (ltb limit n) 2 0 _ (lit< tt) b in
    let counts = passed_test (ltb (lowest (too_many_variables limit ws) n) n) 6 _ _ (lit< tt) nodes.1 in
    record {
      placed = placed.0;
      used_once = used.0;
      few_nodes = ltb-false _ _ nodes.0;
      none_exceeding = λ i k. lowest_before (too_many_variables limit ws) n i (let l : n ≤ lowest (too_many_variables limit ws) n = ltb-false _ _ counts.0 in omega (arith, l, k));
    }

-- Its table fits buffers of 16,384 and 4,096 words, ..
pub words_fit : (f : File) → Passed f → length (table_words f) ≤ 16384
words_fit f p = omega (arith, table_whole f, p.few_nodes)

pub list_fits : (f : File) → Passed f → length (table_list f) ≤ 4096
list_fits f p = table_few limit f p.none_exceeding

-- .. and is promised what a table that was read is.
pub file_table : (text : List ℕ) (f : File) → Spells 65535 text f → Passed f → TableOf 65535 text (table_words f) (table_list f)
file_table text f s p =
    record {
      accepts = table_accepted f (numbers_ranged f (ranged s)) p.placed p.used_once p.few_nodes p.none_exceeding;
      truth_kept = λ g r v. subst (λ (z : File). truth (table_of (table_words f) (table_list f)) v ≡ file_truth z v) (unique s r) (table_truth f p.placed p.used_once v);
    }

-- What is left of an outcome that is done.
pub record Done (f : File) (words list : List ℕ) (o : Outcome Written Buffers) : Type 0 where
  pub file_passed : Passed f
  pub room : length (table_words f) ≤ length words
  pub list_room : length (table_list f) ≤ length list
  pub is_done_lem : o ≡ done_with (table_words f) (table_list f) (buffers words list)

abbrev number : Outcome Written Buffers → ℕ
number o = o.answer.verdict.number

pub outcome_done : (f : File) (words list : List ℕ) → number (file_outcome limits f (buffers words list)) ≡ 0 → Done f words list (file_outcome limits f (buffers words list))
unfolding of_file of_table stored
outcome_done f words list h =
    let ws = table_words f in
    let ls = table_list f in
    let before = buffers words list in
    let short = ltb (length words) (length ws) || ltb (length list) (length ls) in
    let a = call_passed none_written before (table_outcome limits f before) (name_verdict f) h in
    let named = call_next none_written before (table_outcome limits f before) (name_verdict f) a in
    let roomy = unless_short short none_written before (done_with ws ls before) in
    let hb = sym (ap number named) ∙ h in
    let b = call_passed none_written before roomy (size_verdict limits ws) hb in
    let sized = call_next none_written before roomy (size_verdict limits ws) b in
    let hc = sym (ap number sized) ∙ hb in
    let c = call_fits none_written before (done_with ws ls before) short hc in
    record {
      file_passed = passed f a b;
      room = ltb-false _ _ (or_neither_left _ _ c);
      list_room = ltb-false _ _ (or_neither_right (ltb (length words) (length ws)) _ c);
      is_done_lem = named ∙ (sized ∙ call_room none_written before (done_with ws ls before) short c);
    }

-- What was written, if done, is the file's table.
pub done_table : (text : List ℕ) (f : File) (words list : List ℕ) → Spells 65535 text f → TableWritten 65535 text (file_outcome limits f (buffers words list))
unfolding TableWritten done_with done
done_table text f words list s h =
    let d = outcome_done f words list h in
    subst (λ (o : Outcome Written Buffers). TableOf 65535 text (take o.answer.sizes.words o.buffers.words) (take o.answer.sizes.entries o.buffers.list)) (sym d.is_done_lem)
    (subst (λ (ws : List ℕ). TableOf 65535 text ws (take (length (table_list f)) (overwrite list 0 (table_list f)))) (sym (start_of words (table_words f) _ refl))
    (subst (λ (ls : List ℕ). TableOf 65535 text (table_words f) ls) (sym (start_of list (table_list f) _ refl)) (file_table text f s d.file_passed)))

-- What reading promises of an outcome that reading the text has: there is no other.
reads : (text words list words' list' : List ℕ) (r : Answer) → Reading limits text (buffers words list) (after r (buffers words' list')) → TableWritten limits.names text (after r (buffers words' list')) → Reads text words list words' list' r
reads text words list words' list' r h t = record { reading = h; only = only_one limits none_written (buffers words list) (stored (buffers words list)) text (after r (buffers words' list')) h; table = t }

-- Refusal 10.
refused_reads : (text words list : List ℕ) (r : Answer) (p : ℕ) → Reading limits text (buffers words list) (refused_text none_written (buffers words list) (refusal 10 p)) → Refuses r (refusal 10 p) → Reads text words list words list r
unfolding TableWritten refused refusal
refused_reads text words list r p h e =
    let ten : r.verdict.number ≡ 10 = ap (λ (a : AnswerWith Written). a.verdict.number) e in
    reads text words list words list r (subst (Reading limits text (buffers words list)) (sym (refusal_after r (refusal 10 p) words list e)) h) (λ z. absurd (omega (arith, z, ten)))

pub long_reads : (text words list : List ℕ) (r : Answer) → 65536 < length text → Refuses r (refusal 10 0) → Reads text words list words list r
unfolding limits
long_reads text words list r h e = refused_reads text words list r 0 (too_long h) e

pub misspelled_reads : (text words list : List ℕ) (r : Answer) (p : ℕ) → length text ≤ 65536 → accepts 65535 text ≡ false → p ≡ alive 65535 start text → Refuses r (refusal 10 p) → Reads text words list words list r
unfolding limits
misspelled_reads text words list r p h no_file at e =
    refused_reads text words list r p (misspelled h p (subst (λ (k : ℕ). SpellingFault 65535 text k) (sym at) (misspelt 65535 text (lit≤ tt) no_file))) e

pub spelled_reads : (text words list words' list' : List ℕ) (r : Answer) (f : File) → length text ≤ 65536 → Spells 65535 text f → after r (buffers words' list') ≡ file_outcome limits f (buffers words list) → Reads text words list words' list' r
unfolding limits
spelled_reads text words list words' list' r f h s e =
    reads text words list words' list' r (subst (Reading limits text (buffers words list)) (sym e) (spelled h f s)) (subst (TableWritten 65535 text) (sym e) (done_table text f words list s))

-- The tokens of a text that is a file.
pub holds_file : (text roles numbers positions : List ℕ) (count : ℕ) (f : File) → Spells 65535 text f → tokens_from roles numbers positions 0 count ≡ tokens_of 65535 text → Room roles numbers positions count → count ≤ token_limit → HoldsFile roles numbers positions count f
holds_file text roles numbers positions count f s e room few = record { tokens = e ∙ (complete s).1; ordered = ordered s; room = room; few = few }
