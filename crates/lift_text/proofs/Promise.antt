-- What is owed of lifting and measuring a text follows from what comes of it.
-- Assumes nothing.
use mathlib.Core.Path.{◌≡◌, refl, sym, subst}
use mathlib.Core.Bool.{true}
use mathlib.Core.List.{List, [], ◌∷◌}
use Prim.Native.Nat.{ℕ, ◌*◌, ◌/◌, ◌<◌, ◌≤◌}
use native.Mathlib.Omega.{arith}
use lib.Dec.{ltb}
use lib.ListN.{length, take}
use borrow.Author.Tests.{ltb-true, ltb-false, lt-ltb, le-ltb}
use Rattle.lists.specs.Choice.{Is, is_true, is_false, look}
use Rattle.lists.specs.Members.{mem, all}
use Rattle.lists.proofs.Members.{all_mem}
use Rattle.lists.specs.Parts.{overwrite}
use Rattle.lists.proofs.Overwrite.{start_of, length_overwrite}
use Rattle.formula.specs.Words.{width, node_count, table_of}
use Rattle.formula.specs.Form.{prefix_width}
use Rattle.refusals.specs.Verdict.{refusal, accepted}
use Rattle.refusals.specs.Outcome.{Outcome, refused, done}
use Rattle.refusals.proofs.Outcome.{call_room, call_short}
use Rattle.prenex_form.specs.Matrix.{written_nodes}
use Rattle.prenex_form.specs.Prefix.{written_prefix, written_variables}
use Rattle.prenex_form.specs.Sizes.{sizes}
use Rattle.prenex_form.proofs.Theorem.{prenex, sizes_written}
use Rattle.form_check.specs.Accepted.{AcceptedForm}
use Rattle.form_check.proofs.Accepted.{form_holds}
use Rattle.form_writer.specs.Formats.{text_as, room_as}
use Rattle.form_writer.proofs.Formats.{text_room}
use Rattle.qcir.specs.File.{File}
use Rattle.qcir.specs.Spelling.{Spells}
use Rattle.qcir.specs.Table.{table_words, table_list}
use Rattle.qcir.specs.FromText.{limits, name_verdict, size_verdict, text_refusals, refused_text}
use Rattle.qcir.specs.Reading.{TableOf}
use Rattle.qcir.proofs.Answers.{no_refusal, from_text}
use Rattle.qcir_reader.proofs.Texts.{passed, file_table}
use Rattle.qcir_reader.proofs.Unique.{only_one}
use Rattle.file_to_file.specs.FileToFile.{lifted_text}
use Rattle.file_to_file.specs.FileToClauses.{lifted_clauses}
use Rattle.file_to_file.proofs.Passes.{lift_passes}
use Rattle.file_to_file.proofs.Theorem.{Read, from_table, clauses_from_table}
use Rattle.form_writer.specs.declared.Format.{Format}
use Rattle.form_writer.specs.declared.Format.TheVariants.{Qcir, Qdimacs}
use Rattle.lift_text.specs.Formats.{lifted_as, Owed, most_bytes}
use Rattle.text_answers.specs.Answers.{TextSizes, no_text_sizes}
use Rattle.lift_text.specs.Lifting.{lifted_sizes, written_as, Lifting, Linear, LiftsText}
use Rattle.lift_text.proofs.Form.{nodes_most, prefix_most, variables_most}

abbrev lift_numbers : List ℕ
lift_numbers = 0 ∷ 2 ∷ 6 ∷ 9 ∷ 10 ∷ 11 ∷ 12 ∷ 13 ∷ []

-- The numbers that lifting and measuring a text may answer: those of every refusal of a text, and more.
pub listed : (numbers : List ℕ) (number : ℕ) → all (λ y. mem y numbers) text_refusals ≡ true → mem number text_refusals ≡ true → mem number numbers ≡ true
listed numbers number h m = all_mem (λ y. mem y numbers) text_refusals number h m

-- The text of a table's lift is the text of the form that a lift writes.
pub lifted_as_lem : (format : Format) (ws ls : List ℕ)
    → text_as format (written_nodes (table_of ws ls)) (written_prefix (table_of ws ls)) (written_variables (table_of ws ls)) ≡ lifted_as format ws ls
unfolding text_as lifted_as lifted_text lifted_clauses
lifted_as_lem Qcir ws ls = refl
lifted_as_lem Qdimacs ws ls = refl

-- The two ways of a text that is to be written.
module _ (format : Format) (before ws ls : List ℕ) where
  pub data Way : Outcome TextSizes (List ℕ) → Type 0 where
    short_way : length before < length (lifted_as format ws ls) → Way (refused_text no_text_sizes before (refusal 9 0))
    done_way : length (lifted_as format ws ls) ≤ length before
        → Way (record { answer = done (lifted_sizes format ws ls); buffers = overwrite before 0 (lifted_as format ws ls) })

  pub is_short : length before < length (lifted_as format ws ls) → written_as format before ws ls ≡ refused_text no_text_sizes before (refusal 9 0)
  unfolding written_as refused_text
  is_short h = call_short no_text_sizes before _ _ (lt-ltb _ _ h)

  pub is_done_lem : length (lifted_as format ws ls) ≤ length before
      → written_as format before ws ls ≡ record { answer = done (lifted_sizes format ws ls); buffers = overwrite before 0 (lifted_as format ws ls) }
  unfolding written_as
  is_done_lem h = call_room no_text_sizes before _ _ (le-ltb _ _ h)

  pub way : Way (written_as format before ws ls)
  way = go (look (ltb (length before) (length (lifted_as format ws ls))))
    where
      go : Is (ltb (length before) (length (lifted_as format ws ls))) → Way (written_as format before ws ls)
      go (is_true t) = let h = ltb-true _ _ t in subst Way (sym (is_short h)) (short_way h)
      go (is_false t) = let h = ltb-false _ _ t in subst Way (sym (is_done_lem h)) (done_way h)

-- The table of a file that was read, lifted and written: its text, and what is owed of it.
module _ (text : List ℕ) (f : File) (s : Spells limits.names text f) (names : (name_verdict f).number ≡ 0) (few : (size_verdict limits (table_words f)).number ≡ 0) where
  abbrev ws : List ℕ
  ws = table_words f

  abbrev ls : List ℕ
  ls = table_list f

  abbrev ns : List ℕ
  ns = written_nodes (table_of ws ls)

  abbrev ps : List ℕ
  ps = written_prefix (table_of ws ls)

  abbrev xs : List ℕ
  xs = written_variables (table_of ws ls)

  table : TableOf limits.names text ws ls
  unfolding limits
  table = file_table text f s (passed f names few)

  read : Read text ws ls
  read = record { file = f; spells = s; table = table }

  owed : (format : Format) → Owed format text (lifted_as format ws ls)
  unfolding Owed lifted_as
  owed Qcir = from_table text ws ls read
  owed Qdimacs = clauses_from_table text ws ls read

  passes : AcceptedForm ns ps xs
  passes = form_holds _ ns ps xs (lift_passes (table_of ws ls) _ _ _ (prenex ws ls table.accepts))

  -- The form's own sizes are those measured.
  nodes_are : node_count ns ≡ (sizes (table_of ws ls)).nodes
  nodes_are = omega (arith, (prenex ws ls table.accepts).whole_nodes, (sizes_written (table_of ws ls)).nodes_measured)

  blocks_are : length ps / prefix_width ≡ (sizes (table_of ws ls)).blocks
  blocks_are = omega (arith, (prenex ws ls table.accepts).whole_blocks, (sizes_written (table_of ws ls)).blocks_measured)

  bytes_most : (format : Format) → length (lifted_as format ws ls) ≤ room_as format (node_count ns) (length ps / prefix_width) (length xs)
  bytes_most format =
      subst (λ (l : List ℕ). length l ≤ room_as format (node_count ns) (length ps / prefix_width) (length xs)) (lifted_as_lem format ws ls)
      (text_room format ns ps xs passes)

  linear : (format : Format) → Linear format (lifted_sizes format ws ls)
  unfolding sizes
  linear format =
      let p = prenex ws ls table.accepts in
      let e = (sizes_written (table_of ws ls)).entries_measured in
      record {
        nodes_bound = omega (arith, p.nodes_bound, nodes_are);
        variables_bound = omega (arith, p.variables_bound, e);
        blocks_bound = omega (arith, p.blocks_bound, blocks_are);
        bytes_bound =
            subst (λ (k : ℕ). length (lifted_as format ws ls) ≤ room_as format k (sizes (table_of ws ls)).blocks (sizes (table_of ws ls)).entries) nodes_are
            (subst (λ (k : ℕ). length (lifted_as format ws ls) ≤ room_as format (node_count ns) k (sizes (table_of ws ls)).entries) blocks_are
            (subst (λ (k : ℕ). length (lifted_as format ws ls) ≤ room_as format (node_count ns) (length ps / prefix_width) k) e
            (bytes_most format)));
      }

  room_most : (format : Format) → length (lifted_as format ws ls) ≤ most_bytes format
  unfolding room_as
  room_most Qcir =
      let p = prenex ws ls table.accepts in
      omega (arith, bytes_most Qcir, p.nodes_limit, p.whole_blocks, prefix_most ws ls table.accepts, variables_most ws ls table.accepts)
  room_most Qdimacs =
      let p = prenex ws ls table.accepts in
      omega (arith, bytes_most Qdimacs, p.nodes_limit, p.whole_blocks, prefix_most ws ls table.accepts, variables_most ws ls table.accepts)

  pub nodes_room : length ns ≤ width * 40960
  nodes_room = nodes_most ws ls table.accepts

-- All that is promised of lifting a text follows from its outcome.
module _ (format : Format) (text before : List ℕ) where
  -- the promises beside the outcome itself
  record Rest (o : Outcome TextSizes (List ℕ)) : Type 0 where
    pub same : o.answer.verdict.number ≡ 0 → Owed format text (take o.answer.sizes.bytes o.buffers)
    pub linear_sizes : o.answer.verdict.number ≡ 0 → Linear format o.answer.sizes
    pub within : o.answer.sizes.bytes ≤ length o.buffers
    pub numbers : mem o.answer.verdict.number lift_numbers ≡ true
    pub room : o.answer.verdict.number ≡ 9 → length before < most_bytes format

  of_refusal : (number position : ℕ) → mem number text_refusals ≡ true → Rest (refused_text no_text_sizes before (refusal number position))
  unfolding refused_text refused refusal no_text_sizes text_refusals mem all
  of_refusal number position m =
      record {
        same = λ z. absurd (no_refusal 0 number refl m z);
        linear_sizes = λ z. absurd (no_refusal 0 number refl m z);
        within = omega arith;
        numbers = listed lift_numbers number refl m;
        room = λ z. absurd (no_refusal 9 number refl m z);
      }

  of_table_lem : (f : File) → Spells limits.names text f → (name_verdict f).number ≡ 0 → (size_verdict limits (table_words f)).number ≡ 0
      → Rest (written_as format before (table_words f) (table_list f))
  unfolding refused_text refused refusal no_text_sizes done accepted mem
  of_table_lem f s names few = go _ (way format before (table_words f) (table_list f))
    where
      go : (o : Outcome TextSizes (List ℕ)) → Way format before (table_words f) (table_list f) o → Rest o
      go _ (short_way h) =
          let m = room_most text f s names few format in
          record {
            same = λ z. absurd (omega (arith, z));
            linear_sizes = λ z. absurd (omega (arith, z));
            within = omega arith;
            numbers = refl;
            room = λ z. omega (arith, h, m);
          }
      go _ (done_way h) =
          let l = length_overwrite before 0 (lifted_as format (table_words f) (table_list f)) (omega (arith, h)) in
          record {
            same = λ z. subst (Owed format text) (sym (start_of before (lifted_as format (table_words f) (table_list f)) _ refl)) (owed text f s names few format);
            linear_sizes = λ z. linear text f s names few format;
            within = omega (arith, h, l);
            numbers = refl;
            room = λ z. absurd (omega (arith, z));
          }

  pub lifts_text : (o : Outcome TextSizes (List ℕ)) → Lifting format text before o → LiftsText format text before o
  lifts_text o h =
      let r = from_text limits no_text_sizes before (written_as format before) text Rest of_refusal of_table_lem o h in
      record {
        outcome = h;
        only = only_one limits no_text_sizes before (written_as format before) text o h;
        same = r.same;
        linear = r.linear_sizes;
        within = r.within;
        numbers = r.numbers;
        room = r.room;
      }
