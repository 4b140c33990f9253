-- The two passes over the tokens of a file, with the output between them, store the file's table.
-- Assumes nothing.
use mathlib.Core.Bool.{Bool, true, false, not, ◌&&◌}
use mathlib.Core.List.{List, [], ◌∷◌, ◌++◌, append_assoc}
use mathlib.Core.Path.{◌≡◌, refl, sym, ◌∙◌, ap, subst}
use Prim.Native.Nat.{ℕ, zero, suc, ◌+◌, ◌-◌, ◌≤◌, ◌<◌}
use native.Mathlib.Nat.{add-zero}
use native.Mathlib.Omega.{arith}
use lib.Dec.{eqb}
use lib.ListN.{length, get_or}
use borrow.Author.Tests.{eqb-true, eqb-false}
use Rattle.lists.specs.Choice.{Is, is_true, is_false, look, and_left, and_right, and_both}
use Rattle.lists.proofs.Search.{lowest_is}
use Rattle.formula.specs.Node.{Quantifier, exists, for_all}
use Rattle.qcir.specs.File.{Name, Line, File}
use Rattle.qcir.specs.Table.{empty_draft, store_literal, store_gates, store_prefix, store_matrix, store_file, table_words, table_list}
use Rattle.qcir_tokens.specs.Tokens.{
  Token,
  token,
  free_role,
  line_role,
  later_role,
  output_role,
  is_outer,
  is_minus,
  list_tokens,
  free_tokens,
  prefix_tokens,
  output_token,
  gates_tokens,
  file_tokens,
}
use Rattle.qcir_tokens.specs.Held.{token_at, tokens_from}
use Rattle.qcir_nodes.specs.declared.Progress.{Progress}
use Rattle.qcir_nodes.specs.Nodes.{Added, add_literal}
use Rattle.qcir_nodes.proofs.Nodes.{follows_literal}
use Rattle.qcir_nodes.proofs.Stored.{with_added, aligned_after, with_literal}
use Rattle.qcir_table.specs.Passes.{no_progress, Writing, write_token, gates_written, output_index, Lines, add_outer, lines_written}
use Rattle.qcir_table.proofs.Gates.{Counted, counted_start, counted}
use Rattle.qcir_table.proofs.GateTokens.{write_tokens, gates_law}
use Rattle.qcir_table.proofs.LineTokens.{add_outers, outers_append, no_lines, with_lines, free_law, prefix_law}

-- Outer tokens.
unfoldable all_outer : List Token → Bool
all_outer [] = true
all_outer (t ∷ ts) = is_outer t.role && all_outer ts

outer_append : (ts us : List Token) → all_outer ts ≡ true → all_outer us ≡ true → all_outer (ts ++ us) ≡ true
unfolding all_outer
outer_append [] us h k = k
outer_append (t ∷ ts) us h k =
    and_both (is_outer t.role) (all_outer (ts ++ us)) (and_left (is_outer t.role) (all_outer ts) h) (outer_append ts us (and_right (is_outer t.role) (all_outer ts) h) k)

outer_list : (g h : Bool → ℕ) → ((b : Bool) → is_outer (g b) ≡ true) → ((b : Bool) → is_outer (h b) ≡ true) → (x : Name) (xs : List Name) → all_outer (list_tokens g h x xs) ≡ true
unfolding all_outer list_tokens token
outer_list g h og oh x [] = and_both (is_outer (g true)) true (og true) refl
outer_list g h og oh x (y ∷ ys) = and_both (is_outer (g false)) (all_outer (list_tokens h h y ys)) (og false) (outer_list h h oh oh y ys)

free_outer : (first last : Bool) → is_outer (free_role first last) ≡ true
unfolding free_role is_outer
free_outer true true = refl
free_outer true false = refl
free_outer false true = refl
free_outer false false = refl

later_outer : (last : Bool) → is_outer (later_role last) ≡ true
unfolding later_role is_outer
later_outer true = refl
later_outer false = refl

line_outer : (q : Quantifier) (last : Bool) → is_outer (line_role q last) ≡ true
unfolding line_role is_outer
line_outer exists true = refl
line_outer exists false = refl
line_outer for_all true = refl
line_outer for_all false = refl

outer_free : (xs : List Name) → all_outer (free_tokens xs) ≡ true
unfolding all_outer free_tokens
outer_free [] = refl
outer_free (x ∷ xs) = outer_list (free_role true) (free_role false) (free_outer true) (free_outer false) x xs

outer_prefix : (ls : List Line) → all_outer (prefix_tokens ls) ≡ true
unfolding all_outer prefix_tokens
outer_prefix [] = refl
outer_prefix (l ∷ ls) = outer_append (list_tokens (line_role l.quantifier) later_role l.first l.others) (prefix_tokens ls) (outer_list (line_role l.quantifier) later_role (line_outer l.quantifier) later_outer l.first l.others) (outer_prefix ls)

outer_both : (xs : List Name) (ls : List Line) → all_outer (free_tokens xs ++ prefix_tokens ls) ≡ true
outer_both xs ls = outer_append (free_tokens xs) (prefix_tokens ls) (outer_free xs) (outer_prefix ls)

output_not_outer : (minus : Bool) → not (is_outer (output_role minus)) ≡ true
unfolding output_role is_outer
output_not_outer true = refl
output_not_outer false = refl

output_minus : (minus : Bool) → is_minus (output_role minus) ≡ minus
unfolding output_role is_minus
output_minus true = refl
output_minus false = refl

module _ (roles numbers ps : List ℕ) where
  -- The passes go over the tokens held in the arrays.
  tokens_last : (n i : ℕ) (w : Writing) → write_tokens w (tokens_from roles numbers ps i (suc n)) ≡ write_token (write_tokens w (tokens_from roles numbers ps i n)) (get_or roles (i + n) 0) (get_or numbers (i + n) 0)
  unfolding write_tokens tokens_from token_at
  tokens_last zero i w = rw add-zero
  tokens_last (suc n) i w =
      let e : i + suc n ≡ suc i + n = omega arith in
      tokens_last n (suc i) (write_token w (get_or roles i 0) (get_or numbers i 0)) ∙ rw e

  gates_held : (first n : ℕ) → gates_written roles numbers first n ≡ write_tokens (record { draft = empty_draft; progress = no_progress }) (tokens_from roles numbers ps first n)
  unfolding gates_written tokens_from write_tokens
  gates_held first zero = refl
  gates_held first (suc n) =
      ap (λ w. write_token w (get_or roles (first + n) 0) (get_or numbers (first + n) 0)) (gates_held first n)
      ∙ sym (tokens_last n first (record { draft = empty_draft; progress = no_progress }))

  lines_held : (p : Progress) (i n : ℕ) → lines_written roles numbers p i n ≡ add_outers (tokens_from roles numbers ps i n) (no_lines p)
  unfolding lines_written tokens_from token_at add_outers
  lines_held p i zero = refl
  lines_held p i (suc n) = ap (add_outer (get_or roles i 0) (get_or numbers i 0)) (lines_held p (suc i) n)

  length_tokens : (i n : ℕ) → length (tokens_from roles numbers ps i n) ≡ n
  unfolding tokens_from
  length_tokens i zero = refl
  length_tokens i (suc n) = ap suc (length_tokens (suc i) n)

  -- Tokens that are a list put together from two.
  pub record Split (i n : ℕ) (ts us : List Token) : Type 0 where
    pub first_are : tokens_from roles numbers ps i (length ts) ≡ ts
    pub rest_are : tokens_from roles numbers ps (i + length ts) (n - length ts) ≡ us
    pub within : length ts + length us ≡ n

  split : (ts us : List Token) (i n : ℕ) → tokens_from roles numbers ps i n ≡ ts ++ us → Split i n ts us
  unfolding tokens_from
  split [] us i n e =
      let l : n ≡ length us = sym (length_tokens i n) ∙ ap length e in
      let z : n - 0 ≡ n = omega arith in
      record { first_are = refl; rest_are = rw (add-zero, z) e; within = omega arith }
  split (t ∷ ts) us i zero e =
      let z : ◌≡◌ {A = ℕ} 0 1 = cc in absurd (omega arith)
  split (t ∷ ts) us i (suc n) e =
      let h : token_at roles numbers ps i ≡ t = cc in
      let k : tokens_from roles numbers ps (suc i) n ≡ ts ++ us = cc in
      let r = split ts us (suc i) n k in
      let a : i + suc (length ts) ≡ suc i + length ts = omega arith in
      let b : suc n - suc (length ts) ≡ n - length ts = omega arith in
      record { first_are = rw (h, r.first_are); rest_are = rw (a, b) r.rest_are; within = omega (arith, r.within) }

  -- Where the tokens from token i on are outer ones.
  outer_at : (ts : List Token) (i : ℕ) → all_outer ts ≡ true → tokens_from roles numbers ps i (length ts) ≡ ts → (j : ℕ) → i ≤ j → j < i + length ts → is_outer (get_or roles j 0) ≡ true
  unfolding all_outer tokens_from token_at
  outer_at [] i h e j a b = absurd (omega arith)
  outer_at (t ∷ ts) i h e j a b =
      let r : token_at roles numbers ps i ≡ t = cc in
      let k : tokens_from roles numbers ps (suc i) (length ts) ≡ ts = cc in
      outer_here t (look (eqb i j)) (ap (λ z. z.role) r) (and_left (is_outer t.role) (all_outer ts) h) (λ n. outer_at ts (suc i) (and_right (is_outer t.role) (all_outer ts) h) k j (omega arith) (omega arith))
    where
      outer_here : (t : Token) → Is (eqb i j) → get_or roles i 0 ≡ t.role → is_outer t.role ≡ true → ((i ≡ j → ⊥) → is_outer (get_or roles j 0) ≡ true) → is_outer (get_or roles j 0) ≡ true
      outer_here t (is_true q) e o later =
          let z = eqb-true i j q in ap (λ n. is_outer (get_or roles n 0)) (sym z) ∙ ap is_outer e ∙ o
      outer_here t (is_false q) e o later = later (eqb-false i j q)

  -- The parts of the table, where the output's token has index k.
  abbrev pub gates_part : ℕ → ℕ → Writing
  gates_part count k = gates_written roles numbers (k + 1) (count - (k + 1))

  abbrev pub output_part : ℕ → ℕ → Added
  output_part count k =
      add_literal (gates_part count k).progress ((gates_part count k).draft.gate (get_or numbers k 0)) (get_or numbers k 0) (is_minus (get_or roles k 0))

  abbrev pub lines_part : ℕ → ℕ → Lines
  lines_part count k = lines_written roles numbers (output_part count k).progress 0 k

  pub record TableParts (f : File) (count k : ℕ) : Type 0 where
    pub below : k < count
    pub words_are : table_words f ≡ ((gates_part count k).draft.words ++ (output_part count k).words) ++ (lines_part count k).words
    pub list_is : table_list f ≡ (gates_part count k).draft.entries ++ (lines_part count k).entries

  module _ (f : File) (count : ℕ) (held : tokens_from roles numbers ps 0 count ≡ file_tokens f) where
    abbrev outers : List Token
    outers = free_tokens f.free ++ prefix_tokens f.prefix

    abbrev k : ℕ
    k = length outers

    parts : Split 0 count outers (output_token f.output ∷ gates_tokens f.gates)
    unfolding file_tokens
    parts = split outers (output_token f.output ∷ gates_tokens f.gates) 0 count (held ∙ sym (append_assoc (free_tokens f.free) (prefix_tokens f.prefix) (output_token f.output ∷ gates_tokens f.gates)))

    -- the output's token, and those after it
    rest : tokens_from roles numbers ps k (suc (count - (k + 1))) ≡ output_token f.output ∷ gates_tokens f.gates
    rest =
        let w = parts.within in
        let a : 0 + k ≡ k = omega arith in
        let b : count - k ≡ suc (count - (k + 1)) = omega arith in
        rw (a, b) at parts.rest_are

    output_is : token_at roles numbers ps k ≡ output_token f.output
    unfolding tokens_from
    output_is = let e = rest in cc

    gates_are : tokens_from roles numbers ps (k + 1) (count - (k + 1)) ≡ gates_tokens f.gates
    unfolding tokens_from
    gates_are =
        let e = rest in
        let h : tokens_from roles numbers ps (suc k) (count - (k + 1)) ≡ gates_tokens f.gates = cc in
        subst (λ i. tokens_from roles numbers ps i (count - (k + 1)) ≡ gates_tokens f.gates) (omega arith) h

    role_is : get_or roles k 0 ≡ output_role f.output.minus
    unfolding token_at output_token token
    role_is = ap (λ t. t.role) output_is

    number_is : get_or numbers k 0 ≡ f.output.name.number
    unfolding token_at output_token token
    number_is = ap (λ t. t.name.number) output_is

    pub index_is : output_index roles count ≡ k
    unfolding output_index
    index_is =
        let w = parts.within in
        lowest_is (λ i. not (is_outer (get_or roles i 0))) count k (omega arith)
        (ap (λ r. not (is_outer r)) role_is ∙ output_not_outer f.output.minus)
        (λ j h. ap not (outer_at outers 0 (outer_both f.free f.prefix) parts.first_are j (omega arith) (omega arith)))

    abbrev gates : Writing
    gates = gates_part count k

    abbrev output : Added
    output = output_part count k

    gates_counted : Counted gates
    gates_counted = counted roles numbers (k + 1) (count - (k + 1))

    gates_stored : gates.draft ≡ store_gates empty_draft f.gates
    gates_stored =
        ap (λ w. w.draft) (gates_held (k + 1) (count - (k + 1)))
        ∙ ap (λ ts. (write_tokens (record { draft = empty_draft; progress = no_progress }) ts).draft) gates_are
        ∙ gates_law f.gates (record { draft = empty_draft; progress = no_progress }) counted_start

    output_stored : with_added gates.draft output ≡ store_literal gates.draft f.output
    output_stored =
        let m : is_minus (get_or roles k 0) ≡ f.output.minus = ap is_minus role_is ∙ output_minus f.output.minus in
        rw (number_is, m) (with_literal gates.draft gates.progress f.output gates_counted.words_counted)

    -- what the prefix lines add, without the free line
    abbrev prefixed : Lines
    prefixed = add_outers (prefix_tokens f.prefix) (no_lines output.progress)

    lines_are : lines_part count k ≡ add_outers (free_tokens f.free) prefixed
    lines_are =
        lines_held output.progress 0 k
        ∙ ap (λ ts. add_outers ts (no_lines output.progress)) parts.first_are
        ∙ outers_append (free_tokens f.free) (prefix_tokens f.prefix) (no_lines output.progress)

    draft_is : (store_file f).draft ≡ (with_lines (with_added gates.draft output).draft prefixed).draft
    unfolding store_file store_matrix
    draft_is =
        let h = follows_literal gates.progress (gates.draft.gate (get_or numbers k 0)) (get_or numbers k 0) (is_minus (get_or roles k 0)) in
        let a = aligned_after gates.draft gates.progress output gates_counted.words_counted h in
        let b = gates_counted.entries_counted ∙ sym h.listed_kept in
        let r = prefix_law f.prefix (with_added gates.draft output).draft output.progress a b in
        ap (λ d. (store_prefix (store_literal d f.output) f.prefix).draft) (sym gates_stored)
        ∙ ap (λ s. (store_prefix s f.prefix).draft) (sym output_stored)
        ∙ ap (λ s. s.draft) r.stored_is

    parts_at : TableParts f count k
    unfolding table_words table_list
    parts_at =
        let w = parts.within in
        let e = free_law f.free prefixed in
        record {
          below = omega arith;
          words_are = ap (λ d. d.words) draft_is ∙ ap (λ z. (gates.draft.words ++ output.words) ++ z) (sym (ap (λ s. s.words) lines_are ∙ e.0));
          list_is = ap (λ d. d.entries) draft_is ∙ ap (λ z. gates.draft.entries ++ z) (sym (ap (λ s. s.entries) lines_are ∙ e.1));
        }

    -- The table of the file, in the parts in which it is written.
    pub table_parts : TableParts f count (output_index roles count)
    table_parts = subst (TableParts f count) (sym index_is) parts_at
