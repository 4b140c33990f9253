-- Laws of the pass over the prefix lines: how much it adds, and what a turn of its loop writes.
-- Assumes nothing.
use mathlib.Core.Bool.{Bool, true, false}
use mathlib.Core.List.{List, [], ◌∷◌, ◌++◌}
use mathlib.Core.Path.{◌≡◌, refl, sym, ◌∙◌, ap}
use Prim.Native.Nat.{ℕ, zero, suc, ◌+◌, ◌-◌, ◌*◌, ◌≤◌, ◌<◌}
use native.Mathlib.Omega.{arith}
use lib.ListN.{length, get_or, take, drop, length-append}
use lib.Seq.{slice, slice_empty, slice-cons}
use Rattle.std.proofs.lemmas.List.{drop-take}
use Rattle.lists.specs.Choice.{pick}
use Rattle.lists.specs.Parts.{overwrite}
use Rattle.lists.proofs.Overwrite.{overwrite_nil}
use Rattle.formula.specs.Words.{width, block_words, word_list}
use Rattle.formula.specs.declared.NodeWords.{NodeWords}
use Rattle.formula.proofs.Nodes.{word_list-length}
use Rattle.acceptance.specs.Limits.{limit}
use Rattle.qcir_nodes.specs.declared.Progress.{Progress}
use Rattle.qcir_nodes.specs.Nodes.{Added, add_none, add_node, Room, Wrote}
use Rattle.qcir_nodes.proofs.Appending.{write_after}
use Rattle.qcir_table.specs.Passes.{starts_line, line_block_kind, add_line, add_if_line, Lines, add_outer, lines_written}

-- What an outer token adds is counted.
pub record LineAdds (p : Progress) (a : Added) (es : List ℕ) : Type 0 where
  pub words_counted : width * p.next + length a.words ≡ width * a.progress.next
  pub entries_counted : p.listed + length es ≡ a.progress.listed

adds_by : (t : Bool) (p : Progress) (role : ℕ) (xs : List ℕ) → LineAdds p (pick t (add_line p role (length xs)) (add_none p)) (pick t xs [])
unfolding pick
adds_by true p role xs = record { words_counted = omega (arith, word_list-length (block_words (line_block_kind role) p.listed (length xs) p.node)); entries_counted = refl }
adds_by false p role xs = record { words_counted = omega arith; entries_counted = omega arith }

pub line_adds : (p : Progress) (role : ℕ) (xs : List ℕ) → LineAdds p (add_if_line p role (length xs)) (pick (starts_line role) xs [])
unfolding add_if_line
line_adds p role xs = adds_by (starts_line role) p role xs

-- The variables that wait for their line's first entry, and where this line ends.
waiting_by : (t : Bool) (xs numbers : List ℕ) (k end : ℕ) → xs ≡ slice k end numbers → pick t [] xs ≡ slice k (pick t k end) numbers
unfolding pick
waiting_by true xs numbers k end e = sym (slice_empty k numbers)
waiting_by false xs numbers k end e = e

end_by : (t : Bool) (k end outer : ℕ) → k ≤ end → end ≤ outer → (k ≤ pick t k end) × (pick t k end ≤ outer)
unfolding pick
end_by true k end outer h l = (omega arith, omega arith)
end_by false k end outer h l = (h, l)

module _ (roles numbers : List ℕ) (start : Progress) where
  -- The progress is that of what is added.
  pub lines_counted : (i n : ℕ) → (width * start.next + length (lines_written roles numbers start i n).words ≡ width * (lines_written roles numbers start i n).progress.next) × (start.listed + length (lines_written roles numbers start i n).entries ≡ (lines_written roles numbers start i n).progress.listed)
  unfolding lines_written add_outer
  lines_counted i zero = (omega arith, omega arith)
  lines_counted i (suc n) =
      let s = lines_written roles numbers start (suc i) n in
      let k = lines_counted (suc i) n in
      let a = line_adds s.progress (get_or roles i 0) (get_or numbers i 0 ∷ s.pending) in
      (simp length-append (omega (arith, a.words_counted)), simp length-append (omega (arith, a.entries_counted)))

  -- more tokens add no less
  grows_one : (i n : ℕ) → ((lines_written roles numbers start (suc i) n).progress.next ≤ (lines_written roles numbers start i (suc n)).progress.next) × ((lines_written roles numbers start (suc i) n).progress.listed ≤ (lines_written roles numbers start i (suc n)).progress.listed)
  unfolding lines_written add_outer
  grows_one i n =
      let s = lines_written roles numbers start (suc i) n in
      let a = line_adds s.progress (get_or roles i 0) (get_or numbers i 0 ∷ s.pending) in
      (omega (arith, a.words_counted), omega (arith, a.entries_counted))

  module _ (outer : ℕ) where
    -- What the tokens from token i on add.
    unfoldable pub lines_from : ℕ → Lines
    lines_from i = lines_written roles numbers start i (outer - i)

    next_is : (i : ℕ) → i < outer → lines_from i ≡ add_outer (get_or roles i 0) (get_or numbers i 0) (lines_from (suc i))
    unfolding lines_from lines_written
    next_is i h =
        let e : outer - i ≡ suc (outer - suc i) = omega arith in rw e

    pub grows : (i : ℕ) → i ≤ outer → ((lines_from i).progress.next ≤ (lines_written roles numbers start 0 outer).progress.next) × ((lines_from i).progress.listed ≤ (lines_written roles numbers start 0 outer).progress.listed)
    unfolding lines_from
    grows zero h =
        let e : outer - zero ≡ outer = omega arith in rw e (omega arith, omega arith)
    grows (suc i) h =
        let e : outer - i ≡ suc (outer - suc i) = omega arith in
        let g = grows_one i (outer - suc i) in
        let r = rw e at (grows i (omega arith)) in
        (omega arith, omega arith)

    -- The buffers and the progress once the tokens from token i on are passed; the line of token i ends before `end`.
    pub record Reached (i end : ℕ) (words₀ list₀ words list : List ℕ) (p : Progress) : Type 0 where
      pub words_are : words ≡ overwrite words₀ (width * start.next) (lines_from i).words
      pub list_is : list ≡ overwrite list₀ start.listed (lines_from i).entries
      pub progress_is : p ≡ (lines_from i).progress
      pub waiting_are : (lines_from i).pending ≡ slice i end numbers
      pub from_le : i ≤ end
      pub end_le : end ≤ outer
      pub words_kept : length words ≡ length words₀
      pub list_kept : length list ≡ length list₀

    start_is : lines_from outer ≡ record { words = []; entries = []; progress = start; pending = [] }
    unfolding lines_from lines_written
    start_is =
        let e : outer - outer ≡ 0 = omega arith in rw e

    pub reached_start : (words list : List ℕ) → Reached outer outer words list words list start
    reached_start words list =
        record {
          words_are = sym (overwrite_nil words (width * start.next)) ∙ ap (λ s. overwrite words (width * start.next) s.words) (sym start_is);
          list_is = sym (overwrite_nil list start.listed) ∙ ap (λ s. overwrite list start.listed s.entries) (sym start_is);
          progress_is = ap (λ s. s.progress) (sym start_is);
          waiting_are = ap (λ s. s.pending) start_is ∙ sym (slice_empty outer numbers);
          from_le = omega arith;
          end_le = omega arith;
          words_kept = refl;
          list_kept = refl;
        }

    -- with all tokens passed
    pub reached_end : (i end : ℕ) (words₀ list₀ words list : List ℕ) (p : Progress) → i ≡ 0 → Reached i end words₀ list₀ words list p
        → (words ≡ overwrite words₀ (width * start.next) (lines_written roles numbers start 0 outer).words) × (list ≡ overwrite list₀ start.listed (lines_written roles numbers start 0 outer).entries)
    unfolding lines_from
    reached_end i end words₀ list₀ words list p z r =
        let e : lines_from i ≡ lines_written roles numbers start 0 outer =
        ap (λ j. lines_written roles numbers start j (outer - j)) z ∙ ap (λ n. lines_written roles numbers start 0 n) (omega arith) in
        (r.words_are ∙ ap (λ s. overwrite words₀ (width * start.next) s.words) e, r.list_is ∙ ap (λ s. overwrite list₀ start.listed s.entries) e)

    -- There is room for what all the tokens add.
    pub record Fits (words list : List ℕ) : Type 0 where
      pub words_fit : width * (lines_written roles numbers start 0 outer).progress.next ≤ length words
      pub few_words : (lines_written roles numbers start 0 outer).progress.next ≤ limit
      pub list_fits : (lines_written roles numbers start 0 outer).progress.listed ≤ length list
      pub few_entries : (lines_written roles numbers start 0 outer).progress.listed ≤ limit

    module _ (i end : ℕ) (words₀ list₀ words list : List ℕ) (p : Progress) (r : Reached (suc i) end words₀ list₀ words list p) (long : outer ≤ length numbers)
        (fits : Fits words₀ list₀) (variables : List ℕ) (part : variables ≡ slice i end numbers) where
      abbrev role : ℕ
      role = get_or roles i 0

      abbrev before : Lines
      before = lines_from (suc i)

      -- the line's variables so far
      line_is : get_or numbers i 0 ∷ before.pending ≡ variables
      line_is =
          let a = r.from_le in
          let b = r.end_le in
          sym (part ∙ slice-cons i end numbers 0 (omega arith) (omega arith) ∙ ap (λ xs. get_or numbers i 0 ∷ xs) (sym r.waiting_are))

      -- what the token adds, in the code's terms
      after_is : lines_from i ≡ record {
        words = before.words ++ (add_if_line p role (length variables)).words;
        entries = before.entries ++ pick (starts_line role) variables [];
        progress = (add_if_line p role (length variables)).progress;
        pending = pick (starts_line role) [] variables;
      }
      unfolding add_outer
      after_is =
          let a = r.from_le in
          let b = r.end_le in
          let e : length (get_or numbers i 0 ∷ before.pending) ≡ length variables = ap length line_is in
          next_is i (omega arith) ∙ rw (e, line_is, ← r.progress_is)

      adds : LineAdds p (add_if_line p role (length variables)) (pick (starts_line role) variables [])
      adds = line_adds p role variables

      -- the progress before it, as far as it is added
      before_counted : (width * start.next + length before.words ≡ width * p.next) × (start.listed + length before.entries ≡ p.listed)
      unfolding lines_from
      before_counted =
          let k = lines_counted (suc i) (outer - suc i) in
          let a = ap (λ q. q.next) r.progress_is in
          let b = ap (λ q. q.listed) r.progress_is in
          (omega arith, omega arith)

      -- there is room for what the token adds
      pub outer_room : Room words (add_if_line p role (length variables))
      outer_room =
          let l : i ≤ outer = omega (arith, r.from_le, r.end_le) in
          let g = grows i l in
          let a : (lines_from i).progress.next ≡ (add_if_line p role (length variables)).progress.next = ap (λ s. s.progress.next) after_is in
          record { fits = omega (arith, fits.words_fit, r.words_kept); small = omega (arith, fits.few_words) }

      pub outer_listed : ((add_if_line p role (length variables)).progress.listed ≤ length list) × ((add_if_line p role (length variables)).progress.listed ≤ limit)
      outer_listed =
          let l : i ≤ outer = omega (arith, r.from_le, r.end_le) in
          let g = grows i l in
          let a : (lines_from i).progress.listed ≡ (add_if_line p role (length variables)).progress.listed = ap (λ s. s.progress.listed) after_is in
          (omega (arith, fits.list_fits, r.list_kept), omega (arith, fits.few_entries))

      pub reached_outer : (words' list' : List ℕ) (q : Progress) (end' : ℕ) → Wrote words p (add_if_line p role (length variables)) words' q
          → list' ≡ overwrite list p.listed (pick (starts_line role) variables []) → end' ≡ pick (starts_line role) i end
          → length words' ≡ length words → length list' ≡ length list → Reached i end' words₀ list₀ words' list' q
      reached_outer words' list' q end' w l e kw kl =
          let a = add_if_line p role (length variables) in
          let es : List ℕ = pick (starts_line role) variables [] in
          let b = before_counted in
          let rm = outer_room in
          let ls = outer_listed in
          let bounds = end_by (starts_line role) i end outer (omega (arith, r.from_le)) r.end_le in
          record {
            words_are =
                write_after words₀ words words' (width * start.next) (width * p.next) before.words a.words r.words_are w.words_are (omega arith) (omega (arith, adds.words_counted, rm.fits, r.words_kept))
                ∙ ap (λ s. overwrite words₀ (width * start.next) s.words) (sym after_is);
            list_is =
                write_after list₀ list list' start.listed p.listed before.entries es r.list_is l (omega arith) (omega (arith, adds.entries_counted, ls.0, r.list_kept))
                ∙ ap (λ s. overwrite list₀ start.listed s.entries) (sym after_is);
            progress_is = w.progress_is ∙ ap (λ s. s.progress) (sym after_is);
            waiting_are = ap (λ s. s.pending) after_is ∙ waiting_by (starts_line role) variables numbers i end part ∙ ap (λ z. slice i z numbers) (sym e);
            from_le = omega (arith, bounds.0);
            end_le = omega (arith, bounds.1);
            words_kept = kw ∙ r.words_kept;
            list_kept = kl ∙ r.list_kept;
          }

-- a part of a list, as the code takes it
pub part_is : (i end : ℕ) (xs : List ℕ) → i ≤ end → take (end - i) (drop i xs) ≡ slice i end xs
part_is i end xs h =
    let e : i + (end - i) ≡ end = omega arith in sym (drop-take i (end - i) xs) ∙ ap (λ n. drop i (take n xs)) e

-- A line's block, written as a node, with its entries counted.
pub line_wrote : {o m : List ℕ} {p q : Progress} (k count : ℕ) (node : NodeWords) → node ≡ block_words (line_block_kind k) p.listed count p.node → Wrote o p (add_node p node) m q
    → Wrote o p (add_line p k count) m (record { next = q.next; listed = p.listed + count; node = q.node; kind = q.kind; gate = q.gate; inputs = q.inputs; first = q.first })
line_wrote {o} {m} {p} {q} k count node e w =
    record {
      words_are = w.words_are ∙ ap (λ n. overwrite o (width * p.next) (word_list n)) e;
      progress_is = ap (counted_line count) w.progress_is;
    }
  where
    counted_line : ℕ → Progress → Progress
    counted_line n s = record { next = s.next; listed = p.listed + n; node = s.node; kind = s.kind; gate = s.gate; inputs = s.inputs; first = s.first }
