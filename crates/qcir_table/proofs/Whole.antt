-- The table written: room for each of its parts, and the parts written one after the other.
-- Assumes nothing.
use mathlib.Core.List.{List, ◌++◌}
use mathlib.Core.Path.{◌≡◌, sym, ◌∙◌, ap, subst}
use Prim.Native.Nat.{ℕ, ◌+◌, ◌-◌, ◌*◌, ◌≤◌, ◌<◌}
use native.Mathlib.Omega.{arith}
use lib.ListN.{length, get_or, replicate, length-replicate, length-append}
use Rattle.lists.specs.Parts.{overwrite}
use Rattle.lists.proofs.Stores.{get_or-filled}
use Rattle.formula.specs.Words.{width}
use Rattle.acceptance.specs.Limits.{limit}
use Rattle.qcir.specs.File.{File}
use Rattle.qcir.specs.Table.{table_words, table_list}
use Rattle.qcir_tokens.specs.Tokens.{is_minus, file_tokens}
use Rattle.qcir_tokens.specs.Held.{tokens_from, HoldsNames, number_count}
use Rattle.qcir_nodes.specs.declared.Progress.{Progress}
use Rattle.qcir_nodes.specs.Nodes.{Added, add_literal, Room, Wrote}
use Rattle.qcir_nodes.proofs.Appending.{write_after}
use Rattle.qcir_nodes.proofs.Nodes.{follows_literal}
use Rattle.qcir_table.specs.Passes.{Writing, gates_written, output_index, Lines, lines_written, NodesOf}
use Rattle.qcir_table.specs.TableFits.{TableFits}
use Rattle.qcir_table.proofs.Gates.{counted}
use Rattle.qcir_table.proofs.Lines.{lines_counted}
use Rattle.qcir_table.proofs.Table.{TableParts, table_parts}

-- No number stands for a gate yet.
pub no_gates : (n : ℕ) → n ≡ number_count → NodesOf (replicate n 0) (λ x. 0)
no_gates n e = record { wide = length-replicate {A = ℕ} n 0 ∙ e; holds = λ x. get_or-filled n x 0 }

module _ (roles numbers : List ℕ) (count k : ℕ) where
  abbrev gates : Writing
  gates = gates_written roles numbers (k + 1) (count - (k + 1))

  abbrev output : Added
  output = add_literal gates.progress (gates.draft.gate (get_or numbers k 0)) (get_or numbers k 0) (is_minus (get_or roles k 0))

  abbrev lines : Lines
  lines = lines_written roles numbers output.progress 0 k

  -- The parts' sizes: the words of the gates, with the output and with the lines, and the list entries of the gates and with the lines.
  record Sizes : Type 0 where
    gates_words : length gates.draft.words ≡ width * gates.progress.next
    output_words : width * gates.progress.next + length output.words ≡ width * output.progress.next
    lines_words : width * output.progress.next + length lines.words ≡ width * lines.progress.next
    gates_entries : length gates.draft.entries ≡ output.progress.listed
    lines_entries : output.progress.listed + length lines.entries ≡ lines.progress.listed

  sizes : Sizes
  sizes =
      let g = counted roles numbers (k + 1) (count - (k + 1)) in
      let f = follows_literal gates.progress (gates.draft.gate (get_or numbers k 0)) (get_or numbers k 0) (is_minus (get_or roles k 0)) in
      let l = lines_counted roles numbers output.progress 0 k in
      record {
        gates_words = g.words_counted;
        output_words = f.counted;
        lines_words = l.0;
        gates_entries = g.entries_counted ∙ sym f.listed_kept;
        lines_entries = l.1;
      }

  -- There is an output, and room for all.
  pub record Enough (words list : List ℕ) : Type 0 where
    pub below : k < count
    pub roles_hold : count ≤ length roles
    pub numbers_hold : count ≤ length numbers
    pub words_fit : width * lines.progress.next ≤ length words
    pub few_nodes : lines.progress.next ≤ limit
    pub list_fits : lines.progress.listed ≤ length list
    pub few_entries : lines.progress.listed ≤ limit

  pub enough : (words list : List ℕ) → k ≡ output_index roles count → (f : File) × HoldsNames roles numbers count f × TableFits f words list → Enough words list
  enough words list e (f, (ps, h), w) =
      let t = subst (TableParts roles numbers ps f count) (sym e) (table_parts roles numbers ps f count h.tokens) in
      let s = sizes in
      let a : length (table_words f) ≡ width * lines.progress.next = ap length t.words_are ∙ simp length-append (omega (arith, s.gates_words, s.output_words, s.lines_words)) in
      let b : length (table_list f) ≡ lines.progress.listed = ap length t.list_is ∙ simp length-append (omega (arith, s.gates_entries, s.lines_entries)) in
      record {
        below = t.below;
        roles_hold = h.room.roles_hold;
        numbers_hold = h.room.numbers_hold;
        words_fit = omega (arith, w.words_fit);
        few_nodes = omega (arith, w.few_nodes);
        list_fits = omega (arith, w.list_fits);
        few_entries = omega (arith, w.few_entries);
      }

  module _ (words list : List ℕ) (h : Enough words list) where
    pub gates_words_room : (length gates.draft.words ≤ length words) × (length gates.draft.words ≤ width * limit)
    gates_words_room =
        let s = sizes in
        (omega (arith, s.gates_words, s.output_words, s.lines_words, h.words_fit), omega (arith, s.gates_words, s.output_words, s.lines_words, h.few_nodes))

    pub gates_list_room : (length gates.draft.entries ≤ length list) × (length gates.draft.entries ≤ limit)
    gates_list_room =
        let s = sizes in
        (omega (arith, s.gates_entries, s.lines_entries, h.list_fits), omega (arith, s.gates_entries, s.lines_entries, h.few_entries))

    module _ (words1 list1 nodes : List ℕ) (p : Progress) (words_are : words1 ≡ overwrite words 0 gates.draft.words) (list_is : list1 ≡ overwrite list 0 gates.draft.entries)
        (nodes_are : NodesOf nodes gates.draft.gate) (progress_is : p ≡ gates.progress) (words_kept : length words1 ≡ length words) (list_kept : length list1 ≡ length list) where
      -- the output, in the code's terms
      output_is : add_literal p (get_or nodes (get_or numbers k 0) 0) (get_or numbers k 0) (is_minus (get_or roles k 0)) ≡ output
      output_is = rw (progress_is, nodes_are.holds (get_or numbers k 0))

      pub output_room : Room words1 (add_literal p (get_or nodes (get_or numbers k 0) 0) (get_or numbers k 0) (is_minus (get_or roles k 0)))
      output_room =
          let s = sizes in
          subst (Room words1) (sym output_is) (record { fits = omega (arith, s.lines_words, h.words_fit); small = omega (arith, s.lines_words, h.few_nodes) })

      module _ (words2 : List ℕ) (q : Progress) (w : Wrote words1 p (add_literal p (get_or nodes (get_or numbers k 0) 0) (get_or numbers k 0) (is_minus (get_or roles k 0))) words2 q) (kept2 : length words2 ≡ length words1) where
        output_progress : q ≡ output.progress
        output_progress = w.progress_is ∙ ap (λ a. a.progress) output_is

        pub lines_words_room : (width * (lines_written roles numbers q 0 k).progress.next ≤ length words2) × ((lines_written roles numbers q 0 k).progress.next ≤ limit)
        lines_words_room = rw output_progress (omega (arith, h.words_fit), h.few_nodes)

        pub lines_list_room : ((lines_written roles numbers q 0 k).progress.listed ≤ length list1) × ((lines_written roles numbers q 0 k).progress.listed ≤ limit)
        lines_list_room = rw output_progress (omega (arith, h.list_fits), h.few_entries)

        pub table_written : (ps : List ℕ) (f : File) → k ≡ output_index roles count → tokens_from roles numbers ps 0 count ≡ file_tokens f → (words3 list3 : List ℕ)
            → words3 ≡ overwrite words2 (width * q.next) (lines_written roles numbers q 0 k).words → list3 ≡ overwrite list1 q.listed (lines_written roles numbers q 0 k).entries
            → (words3 ≡ overwrite words 0 (table_words f)) × (list3 ≡ overwrite list 0 (table_list f))
        table_written ps f e held words3 list3 a b =
            let t = subst (TableParts roles numbers ps f count) (sym e) (table_parts roles numbers ps f count held) in
            let s = sizes in
            let wo : Wrote words1 gates.progress output words2 q = subst (λ z. Wrote words1 z output words2 q) progress_is (subst (λ z. Wrote words1 p z words2 q) output_is w) in
            let a2 : words3 ≡ overwrite words2 (width * output.progress.next) lines.words = subst (λ z. words3 ≡ overwrite words2 (width * z.next) (lines_written roles numbers z 0 k).words) output_progress a in
            let b2 : list3 ≡ overwrite list1 output.progress.listed lines.entries = subst (λ z. list3 ≡ overwrite list1 z.listed (lines_written roles numbers z 0 k).entries) output_progress b in
            let l : length (gates.draft.words ++ output.words) ≡ width * output.progress.next = simp length-append (omega (arith, s.gates_words, s.output_words)) in
            let u : words2 ≡ overwrite words 0 (gates.draft.words ++ output.words) =
            write_after words words1 words2 0 (width * gates.progress.next) gates.draft.words output.words words_are wo.words_are (omega (arith, s.gates_words)) (omega (arith, s.gates_words, s.output_words, s.lines_words, h.words_fit)) in
            let v : words3 ≡ overwrite words 0 ((gates.draft.words ++ output.words) ++ lines.words) =
            write_after words words2 words3 0 (width * output.progress.next) (gates.draft.words ++ output.words) lines.words u a2 (omega arith) (omega (arith, s.lines_words, h.words_fit)) in
            let z : list3 ≡ overwrite list 0 (gates.draft.entries ++ lines.entries) =
            write_after list list1 list3 0 output.progress.listed gates.draft.entries lines.entries list_is b2 (omega (arith, s.gates_entries)) (omega (arith, s.gates_entries, s.lines_entries, h.list_fits)) in
            (v ∙ ap (overwrite words 0) (sym t.words_are), z ∙ ap (overwrite list 0) (sym t.list_is))
