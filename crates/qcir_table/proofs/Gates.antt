-- Laws of the pass over the gate lines: how much it has stored, and what a turn of its loop writes.
-- Assumes nothing.
use mathlib.Core.Bool.{Bool, true, false}
use mathlib.Core.List.{List, [], ◌∷◌, ◌++◌}
use mathlib.Core.Path.{◌≡◌, refl, sym, ◌∙◌, ap, subst}
use Prim.Native.Nat.{ℕ, zero, suc, ◌+◌, ◌-◌, ◌*◌, ◌≤◌, ◌<◌}
use native.Mathlib.Omega.{arith}
use native.Mathlib.Numerals.{add-one}
use lib.Dec.{eqb, leb}
use lib.ListN.{length, get_or, set, length-append, length-set}
use borrow.Author.Tests.{leb-true, leb-false}
use Rattle.lists.specs.Choice.{Is, is_true, is_false, look, pick}
use Rattle.lists.specs.Parts.{overwrite}
use Rattle.lists.proofs.Overwrite.{overwrite_nil}
use Rattle.lists.proofs.Stores.{get_d_set}
use Rattle.formula.specs.Words.{width}
use Rattle.acceptance.specs.Limits.{limit}
use Rattle.qcir.specs.Table.{empty_draft}
use Rattle.qcir_tokens.specs.Tokens.{is_definition, is_bound, is_last}
use Rattle.qcir_tokens.specs.Held.{number_count}
use Rattle.qcir_nodes.specs.declared.Progress.{Progress}
use Rattle.qcir_nodes.specs.Nodes.{Added, begun, lengthened, add_use, add_token, token_entries, Room, Wrote}
use Rattle.qcir_nodes.proofs.Appending.{write_after}
use Rattle.qcir_nodes.proofs.Nodes.{Follows, follows_use}
use Rattle.qcir_table.specs.Passes.{no_progress, Writing, gates_after, write_token, gates_written, NodesOf}

-- What a token adds is counted.
pub record TokenAdds (p : Progress) (x : ℕ) (a : Added) (es : List ℕ) : Type 0 where
  pub words_counted : width * p.next + length a.words ≡ width * a.progress.next
  pub entries_counted : p.listed + length es ≡ a.progress.listed
  pub first_in : p.first ≤ p.listed → a.progress.first ≤ a.progress.listed
  pub gate_low : p.gate < number_count → x < number_count → a.progress.gate < number_count

adds_by : (t u : Bool) (p : Progress) (role x : ℕ) (c : Added) → Follows p c
    → TokenAdds p x
    (pick t (record { words = []; progress = begun p role x }) (pick u (record { words = []; progress = lengthened p 1 }) c))
    (pick t [] (pick u (x ∷ []) []))
unfolding pick
adds_by true u p role x c f =
    record { words_counted = omega arith; entries_counted = omega arith; first_in = λ h. omega arith; gate_low = λ h k. k }
adds_by false true p role x c f =
    record { words_counted = omega arith; entries_counted = omega arith; first_in = λ h. omega arith; gate_low = λ h k. h }
adds_by false false p role x c f =
    record {
      words_counted = f.counted;
      entries_counted = omega arith;
      first_in = λ h. omega (arith, f.first_kept, f.listed_kept);
      gate_low = λ h k. omega (arith, f.gate_kept);
    }

pub token_adds : (p : Progress) (g role x : ℕ) → TokenAdds p x (add_token p g role x) (token_entries role x)
unfolding add_token token_entries
token_adds p g role x = adds_by (is_definition role) (is_bound role) p role x (add_use p g role x) (follows_use p g role x)

-- The progress is that of what is stored.
pub record Counted (w : Writing) : Type 0 where
  pub words_counted : length w.draft.words ≡ width * w.progress.next
  pub entries_counted : length w.draft.entries ≡ w.progress.listed
  pub first_in : w.progress.first ≤ w.progress.listed

pub counted_token : (w : Writing) (role x : ℕ) → Counted w → Counted (write_token w role x)
unfolding write_token
counted_token w role x k =
    let t = token_adds w.progress (w.draft.gate x) role x in
    record {
      words_counted = simp length-append (omega (arith, k.words_counted, t.words_counted));
      entries_counted = simp length-append (omega (arith, k.entries_counted, t.entries_counted));
      first_in = t.first_in k.first_in;
    }

pub counted_start : Counted (record { draft = empty_draft; progress = no_progress })
unfolding empty_draft
counted_start = record { words_counted = omega arith; entries_counted = omega arith; first_in = omega arith }

-- The array of the gates' nodes after a token.
nodes_after_by : (t : Bool) (nodes nodes' : List ℕ) (gate : ℕ → ℕ) (q : Progress) → NodesOf nodes gate → q.gate < number_count
    → nodes' ≡ pick t (set nodes q.gate (q.node + 1)) nodes → NodesOf nodes' (pick t (λ x. pick (eqb x q.gate) (suc q.node) (gate x)) gate)
unfolding pick
nodes_after_by true nodes nodes' gate q h low e =
    record {
      wide = ap length e ∙ length-set nodes q.gate (q.node + 1) ∙ h.wide;
      holds = λ x. ap (λ l. get_or l x 0) e ∙ get_d_set nodes q.gate (q.node + 1) 0 (omega (arith, h.wide)) x ∙ rw (add-one, h.holds x);
    }
nodes_after_by false nodes nodes' gate q h low e =
    record { wide = ap length e ∙ h.wide; holds = λ x. ap (λ l. get_or l x 0) e ∙ h.holds x }

nodes_after_lem : (nodes nodes' : List ℕ) (gate : ℕ → ℕ) (role : ℕ) (q : Progress) → NodesOf nodes gate → q.gate < number_count
    → nodes' ≡ pick (is_last role) (set nodes q.gate (q.node + 1)) nodes → NodesOf nodes' (gates_after gate role q)
unfolding gates_after
nodes_after_lem nodes nodes' gate role q h low e = nodes_after_by (is_last role) nodes nodes' gate q h low e

module _ (roles numbers : List ℕ) (first : ℕ) where
  pub counted : (n : ℕ) → Counted (gates_written roles numbers first n)
  unfolding gates_written
  counted zero = counted_start
  counted (suc n) = counted_token _ _ _ (counted n)

  -- more tokens store no less
  grows_one : (n : ℕ) → (length (gates_written roles numbers first n).draft.words ≤ length (gates_written roles numbers first (suc n)).draft.words) × (length (gates_written roles numbers first n).draft.entries ≤ length (gates_written roles numbers first (suc n)).draft.entries)
  unfolding gates_written write_token
  grows_one n = (simp length-append (omega arith), simp length-append (omega arith))

  pub grows : (m n : ℕ) → m ≤ n → (length (gates_written roles numbers first m).draft.words ≤ length (gates_written roles numbers first n).draft.words) × (length (gates_written roles numbers first m).draft.entries ≤ length (gates_written roles numbers first n).draft.entries)
  grows m zero h =
      let e : m ≡ zero = omega arith in rw e (omega arith, omega arith)
  grows m (suc n) h = grows_from m n h (look (leb m n)) (grows m n)
    where
      grows_from : (m n : ℕ) → m ≤ suc n → Is (leb m n)
          → (m ≤ n → (length (gates_written roles numbers first m).draft.words ≤ length (gates_written roles numbers first n).draft.words) × (length (gates_written roles numbers first m).draft.entries ≤ length (gates_written roles numbers first n).draft.entries))
          → (length (gates_written roles numbers first m).draft.words ≤ length (gates_written roles numbers first (suc n)).draft.words) × (length (gates_written roles numbers first m).draft.entries ≤ length (gates_written roles numbers first (suc n)).draft.entries)
      grows_from m n h (is_true t) r =
          let a = r (leb-true m n t) in
          let b = grows_one n in (omega arith, omega arith)
      grows_from m n h (is_false t) r =
          let l = leb-false m n t in
          let e : m ≡ suc n = omega arith in rw e (omega arith, omega arith)

  -- There is room for what n tokens store.
  pub record Fits (n : ℕ) (words list : List ℕ) : Type 0 where
    pub words_fit : length (gates_written roles numbers first n).draft.words ≤ length words
    pub few_words : length (gates_written roles numbers first n).draft.words ≤ width * limit
    pub list_fits : length (gates_written roles numbers first n).draft.entries ≤ length list
    pub few_entries : length (gates_written roles numbers first n).draft.entries ≤ limit

  pub fits_less : (m n : ℕ) (words list : List ℕ) → m ≤ n → Fits n words list → Fits m words list
  fits_less m n words list h f =
      let g = grows m n h in
      record { words_fit = omega (arith, f.words_fit); few_words = omega (arith, f.few_words); list_fits = omega (arith, f.list_fits); few_entries = omega (arith, f.few_entries) }

  -- The buffers and the progress after n tokens.
  pub record Reached (n : ℕ) (words₀ list₀ words list nodes : List ℕ) (p : Progress) : Type 0 where
    pub words_are : words ≡ overwrite words₀ 0 (gates_written roles numbers first n).draft.words
    pub list_is : list ≡ overwrite list₀ 0 (gates_written roles numbers first n).draft.entries
    pub nodes_are : NodesOf nodes (gates_written roles numbers first n).draft.gate
    pub progress_is : p ≡ (gates_written roles numbers first n).progress
    pub gate_low : p.gate < number_count
    pub words_kept : length words ≡ length words₀
    pub list_kept : length list ≡ length list₀

  pub reached_start : (words list nodes : List ℕ) → NodesOf nodes (λ x. 0) → Reached 0 words list words list nodes no_progress
  unfolding gates_written empty_draft
  reached_start words list nodes h =
      record {
        words_are = sym (overwrite_nil words 0);
        list_is = sym (overwrite_nil list 0);
        nodes_are = h;
        progress_is = refl;
        gate_low = omega arith;
        words_kept = refl;
        list_kept = refl;
      }

  module _ (n : ℕ) (words₀ list₀ words list nodes : List ℕ) (p : Progress) (role x : ℕ) (r : Reached n words₀ list₀ words list nodes p)
      (role_is : get_or roles (first + n) 0 ≡ role) (x_is : get_or numbers (first + n) 0 ≡ x) (fits : Fits (suc n) words₀ list₀) where
    before : Writing
    before = gates_written roles numbers first n

    -- what the token adds is what is added in the code's terms
    added_is : add_token before.progress (before.draft.gate (get_or numbers (first + n) 0)) (get_or roles (first + n) 0) (get_or numbers (first + n) 0) ≡ add_token p (get_or nodes x 0) role x
    unfolding before
    added_is = rw (role_is, x_is) (rw (← r.progress_is, r.nodes_are.holds x))

    after_is : gates_written roles numbers first (suc n) ≡ record {
      draft = record { words = before.draft.words ++ (add_token p (get_or nodes x 0) role x).words; entries = before.draft.entries ++ token_entries role x; gate = gates_after before.draft.gate role (add_token p (get_or nodes x 0) role x).progress };
      progress = (add_token p (get_or nodes x 0) role x).progress;
    }
    unfolding gates_written write_token before
    after_is = rw (added_is, role_is, x_is)

    -- the progress before it, as far as it is stored
    before_counted : (length before.draft.words ≡ width * p.next) × (length before.draft.entries ≡ p.listed) × (p.first ≤ p.listed)
    unfolding before
    before_counted =
        let k = counted n in
        let a = ap (λ q. q.next) r.progress_is in
        let b = ap (λ q. q.listed) r.progress_is in
        let d = ap (λ q. q.first) r.progress_is in
        (omega (arith, k.words_counted), omega (arith, k.entries_counted), omega (arith, k.first_in))

    -- how much is stored after it
    after_words : length (gates_written roles numbers first (suc n)).draft.words ≡ length before.draft.words + length (add_token p (get_or nodes x 0) role x).words
    after_words = ap (λ w. length w.draft.words) after_is ∙ simp length-append

    after_entries : length (gates_written roles numbers first (suc n)).draft.entries ≡ length before.draft.entries + length (token_entries role x)
    after_entries = ap (λ w. length w.draft.entries) after_is ∙ simp length-append

    -- there is room for what the token adds
    pub token_room : Room words (add_token p (get_or nodes x 0) role x)
    token_room =
        let t = token_adds p (get_or nodes x 0) role x in
        let b = before_counted in
        let a = after_words in
        record {
          fits = omega (arith, t.words_counted, fits.words_fit, r.words_kept);
          small = omega (arith, t.words_counted, fits.few_words);
        }

    pub token_listed : (p.first ≤ p.listed) × (p.listed + length (token_entries role x) ≤ length list) × (p.listed ≤ limit)
    token_listed =
        let b = before_counted in
        let a = after_entries in
        (b.2, omega (arith, fits.list_fits, r.list_kept), omega (arith, fits.few_entries))

    pub reached_token : (words' list' nodes' : List ℕ) (q : Progress) → x < number_count → Wrote words p (add_token p (get_or nodes x 0) role x) words' q
        → list' ≡ overwrite list p.listed (token_entries role x) → nodes' ≡ pick (is_last role) (set nodes q.gate (q.node + 1)) nodes
        → length words' ≡ length words → length list' ≡ length list
        → Reached (suc n) words₀ list₀ words' list' nodes' q
    unfolding before
    reached_token words' list' nodes' q low w l s kw kl =
        let t = token_adds p (get_or nodes x 0) role x in
        let b = before_counted in
        let aw = after_words in
        let ae = after_entries in
        let a = add_token p (get_or nodes x 0) role x in
        let gl : q.gate < number_count = subst (λ z. z.gate < number_count) (sym w.progress_is) (t.gate_low r.gate_low low) in
        let ew : words' ≡ overwrite words₀ 0 (before.draft.words ++ a.words) =
        write_after words₀ words words' 0 (width * p.next) before.draft.words a.words r.words_are w.words_are (omega arith) (omega (arith, fits.words_fit)) in
        let el : list' ≡ overwrite list₀ 0 (before.draft.entries ++ token_entries role x) =
        write_after list₀ list list' 0 p.listed before.draft.entries (token_entries role x) r.list_is l (omega arith) (omega (arith, fits.list_fits)) in
        let en : NodesOf nodes' (gates_after before.draft.gate role a.progress) = subst (λ z. NodesOf nodes' (gates_after before.draft.gate role z)) w.progress_is (nodes_after_lem nodes nodes' before.draft.gate role q r.nodes_are gl s) in
        record {
          words_are = ew ∙ ap (λ z. overwrite words₀ 0 z.draft.words) (sym after_is);
          list_is = el ∙ ap (λ z. overwrite list₀ 0 z.draft.entries) (sym after_is);
          nodes_are = subst (λ z. NodesOf nodes' z.draft.gate) (sym after_is) en;
          progress_is = w.progress_is ∙ ap (λ z. z.progress) (sym after_is);
          gate_low = gl;
          words_kept = kw ∙ r.words_kept;
          list_kept = kl ∙ r.list_kept;
        }

-- the element at index i, counted from `first` on
pub from_first : (l : List ℕ) (first i : ℕ) → first ≤ i → get_or l (first + (i - first)) 0 ≡ get_or l i 0
from_first l first i h = ap (λ k. get_or l k 0) (omega arith)
