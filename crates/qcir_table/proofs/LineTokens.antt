-- The tokens of prefix lines, passed from the last to the first, add what the definition of the table stores for the lines.
-- Assumes nothing.
use mathlib.Core.Bool.{Bool, true, false}
use mathlib.Core.List.{List, [], ◌∷◌, ◌++◌, append_assoc, append-nil}
use mathlib.Core.Path.{◌≡◌, refl, sym, ◌∙◌, ap, subst}
use Prim.Native.Nat.{ℕ, ◌+◌, ◌*◌}
use native.Mathlib.Omega.{arith}
use lib.ListN.{length, length-append}
use Rattle.lists.specs.Choice.{pick, pick_yes, pick_no}
use Rattle.formula.specs.Node.{Quantifier, exists, for_all}
use Rattle.formula.specs.Words.{width, block_words, word_list}
use Rattle.formula.specs.Form.{kind_of}
use Rattle.formula.proofs.Nodes.{word_list-length}
use Rattle.qcir.specs.File.{Name, Line, line_variables, numbers_of}
use Rattle.qcir.specs.Table.{Draft, Stored, store, store_block, store_prefix}
use Rattle.qcir_tokens.specs.Tokens.{Token, token, free_role, line_role, later_role, list_tokens, free_tokens, prefix_tokens}
use Rattle.qcir_nodes.specs.declared.Progress.{Progress}
use Rattle.qcir_nodes.specs.Nodes.{moved, lengthened, add_none}
use Rattle.qcir_nodes.proofs.Stored.{node_count_lem}
use Rattle.qcir_table.specs.Passes.{starts_line, line_block_kind, add_line, add_if_line, Lines, add_outer}

-- Tokens passed, the last first.
unfoldable pub add_outers : List Token → Lines → Lines
add_outers [] s = s
add_outers (t ∷ ts) s = add_outer t.role t.name.number (add_outers ts s)

pub outers_append : (ts us : List Token) (s : Lines) → add_outers (ts ++ us) s ≡ add_outers ts (add_outers us s)
unfolding add_outers
outers_append [] us s = refl
outers_append (t ∷ ts) us s = ap (add_outer t.role t.name.number) (outers_append ts us s)

-- Nothing is added yet.
abbrev pub no_lines : Progress → Lines
no_lines p = record { words = []; entries = []; progress = p; pending = [] }

-- The same, with other variables that wait.
abbrev waiting : Lines → List ℕ → Lines
waiting s xs = record { words = s.words; entries = s.entries; progress = s.progress; pending = xs }

module _ (role x : ℕ) (s : Lines) where
  plain_token : starts_line role ≡ false → add_outer role x s ≡ waiting s (x ∷ s.pending)
  unfolding add_outer add_if_line
  plain_token h =
      rw (pick_no (starts_line role) (add_line s.progress role (length (x ∷ s.pending))) (add_none s.progress) h, pick_no (starts_line role) (x ∷ s.pending) [] h, pick_no (starts_line role) [] (x ∷ s.pending) h, append-nil s.words, append-nil s.entries)

  start_token : starts_line role ≡ true
      → add_outer role x s
      ≡ record {
        words = s.words ++ (add_line s.progress role (length (x ∷ s.pending))).words;
        entries = s.entries ++ (x ∷ s.pending);
        progress = (add_line s.progress role (length (x ∷ s.pending))).progress;
        pending = [];
      }
  unfolding add_outer add_if_line
  start_token h =
      rw (pick_yes (starts_line role) (add_line s.progress role (length (x ∷ s.pending))) (add_none s.progress) h, pick_yes (starts_line role) (x ∷ s.pending) [] h, pick_yes (starts_line role) [] (x ∷ s.pending) h)

-- a list none of whose tokens starts a line
plain_list : (f g : Bool → ℕ) → ((b : Bool) → starts_line (f b) ≡ false) → ((b : Bool) → starts_line (g b) ≡ false) → (x : Name) (xs : List Name) (s : Lines)
    → add_outers (list_tokens f g x xs) s ≡ waiting s (numbers_of (x ∷ xs) ++ s.pending)
unfolding add_outers list_tokens token numbers_of
plain_list f g hf hg x [] s = plain_token (f true) x.number s (hf true)
plain_list f g hf hg x (y ∷ ys) s =
    ap (add_outer (f false) x.number) (plain_list g g hg hg y ys s)
    ∙ plain_token (f false) x.number (waiting s (numbers_of (y ∷ ys) ++ s.pending)) (hf false)

free_starts : (first last : Bool) → starts_line (free_role first last) ≡ false
unfolding free_role
free_starts true true = refl
free_starts true false = refl
free_starts false true = refl
free_starts false false = refl

later_starts : (last : Bool) → starts_line (later_role last) ≡ false
unfolding later_role
later_starts true = refl
later_starts false = refl

line_starts : (q : Quantifier) (last : Bool) → (starts_line (line_role q last) ≡ true) × (line_block_kind (line_role q last) ≡ kind_of q)
unfolding line_role line_block_kind kind_of pick
line_starts exists true = (refl, refl)
line_starts exists false = (refl, refl)
line_starts for_all true = (refl, refl)
line_starts for_all false = (refl, refl)

-- The free line adds nothing.
pub free_law : (xs : List Name) (s : Lines) → ((add_outers (free_tokens xs) s).words ≡ s.words) × ((add_outers (free_tokens xs) s).entries ≡ s.entries)
unfolding free_tokens add_outers
free_law [] s = (refl, refl)
free_law (x ∷ xs) s =
    let e = plain_list (free_role true) (free_role false) (free_starts true) (free_starts false) x xs s in
    (ap (λ z. z.words) e, ap (λ z. z.entries) e)

-- What a line with the variables ns adds.
abbrev with_line : Lines → Quantifier → List ℕ → Lines
with_line s q ns =
    record {
      words = s.words ++ word_list (block_words (kind_of q) s.progress.listed (length ns) s.progress.node);
      entries = s.entries ++ ns;
      progress = lengthened (moved s.progress (s.progress.next + 1) s.progress.next) (length ns);
      pending = [];
    }

first_law : (q : Quantifier) (last : Bool) (x : ℕ) (s : Lines) → add_outer (line_role q last) x s ≡ with_line s q (x ∷ s.pending)
first_law q last x s =
    let r = line_starts q last in start_token (line_role q last) x s r.0 ∙ rw r.1

line_law : (q : Quantifier) (x : Name) (xs : List Name) (s : Lines) → s.pending ≡ [] → add_outers (list_tokens (line_role q) later_role x xs) s ≡ with_line s q (numbers_of (x ∷ xs))
unfolding add_outers list_tokens token numbers_of
line_law q x [] s e = first_law q true x.number s ∙ ap (λ z. with_line s q (x.number ∷ z)) e
line_law q x (y ∷ ys) s e =
    let ns = numbers_of (y ∷ ys) in
    ap (add_outer (line_role q false) x.number) (plain_list later_role later_role later_starts later_starts y ys s)
    ∙ first_law q false x.number (waiting s (ns ++ s.pending))
    ∙ ap (λ z. with_line s q (x.number ∷ (ns ++ z))) e
    ∙ ap (λ z. with_line s q (x.number ∷ z)) (append-nil ns)

-- A draft with what lines add.
abbrev pub with_lines : Draft → Lines → Stored
with_lines d s = record { draft = record { words = d.words ++ s.words; entries = d.entries ++ s.entries; gate = d.gate }; node = s.progress.node }

-- What the prefix lines add is what is stored for them.
pub record PrefixStored (d : Draft) (p : Progress) (ls : List Line) (s : Lines) : Type 0 where
  pub none_waits : s.pending ≡ []
  pub stored_is : store_prefix (record { draft = d; node = p.node }) ls ≡ with_lines d s
  pub words_counted : length (d.words ++ s.words) ≡ width * s.progress.next
  pub entries_counted : length (d.entries ++ s.entries) ≡ s.progress.listed

block_law : (d : Draft) (s : Lines) (q : Quantifier) (ns : List ℕ) → length (d.words ++ s.words) ≡ width * s.progress.next → length (d.entries ++ s.entries) ≡ s.progress.listed
    → store_block q ns (with_lines d s) ≡ with_lines d (with_line s q ns)
unfolding store_block store
block_law d s q ns a b =
    rw (node_count_lem (d.words ++ s.words) s.progress.next a, b, append_assoc d.words s.words, append_assoc d.entries s.entries)

pub prefix_law : (ls : List Line) (d : Draft) (p : Progress) → length d.words ≡ width * p.next → length d.entries ≡ p.listed
    → PrefixStored d p ls (add_outers (prefix_tokens ls) (no_lines p))
unfolding add_outers prefix_tokens store_prefix line_variables
prefix_law [] d p a b =
    record { none_waits = refl; stored_is = rw (append-nil d.words, append-nil d.entries); words_counted = rw append-nil a; entries_counted = rw append-nil b }
prefix_law (l ∷ ls) d p a b =
    let s = add_outers (prefix_tokens ls) (no_lines p) in
    let r = prefix_law ls d p a b in
    let q = l.quantifier in
    let ns = numbers_of (line_variables l) in
    let e : add_outers (list_tokens (line_role q) later_role l.first l.others ++ prefix_tokens ls) (no_lines p) ≡ with_line s q ns =
    outers_append (list_tokens (line_role q) later_role l.first l.others) (prefix_tokens ls) (no_lines p) ∙ line_law q l.first l.others s r.none_waits in
    let wc = simp length-append at r.words_counted in
    let ec = simp length-append at r.entries_counted in
    subst (PrefixStored d p (l ∷ ls)) (sym e)
    (record {
      none_waits = refl;
      stored_is = ap (store_block q ns) r.stored_is ∙ block_law d s q ns r.words_counted r.entries_counted;
      words_counted = simp length-append (omega (arith, word_list-length (block_words (kind_of q) s.progress.listed (length ns) s.progress.node)));
      entries_counted = simp length-append (omega arith);
    })
