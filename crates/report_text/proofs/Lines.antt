-- The lines of a report, put one after the other as the names are walked.
-- Assumes nothing.
use mathlib.Core.Path.{◌≡◌, refl, sym, ap, ◌∙◌}
use mathlib.Core.Bool.{false}
use mathlib.Core.List.{List, [], ◌∷◌, ◌++◌, append_assoc, append-nil}
use Prim.Native.Nat.{ℕ, ◌+◌, ◌*◌, ◌-◌, ◌≤◌, ◌<◌}
use native.Mathlib.Omega.{arith}
use lib.Dec.{ltb}
use lib.ListN.{length, drop}
use borrow.Author.Tests.{ltb-true, ltb-false}
use Rattle.lists.specs.Choice.{Is, is_true, is_false, look, or_neither_left, or_neither_right}
use Rattle.texts.specs.Put.{Put}
use Rattle.texts.proofs.Put.{put_none, put_then, put_as}
use Rattle.growth.specs.Lines.{line_at, line_figures}
use Rattle.name_lines.specs.declared.Name.{Name}
use Rattle.name_lines.specs.Names.{names, some_long}
use Rattle.name_lines.specs.Walk.{part, NextName}
use Rattle.name_lines.proofs.Walk.{part_length}
use Rattle.name_lines.proofs.Verdicts.{passed}
use Rattle.refusals.specs.Verdict.{accepted}
use Rattle.report_text.specs.Report.{line_text, name_lines}
use Rattle.report_text.specs.Bounds.{most_line, LineEach}

-- The lines before line i are put, and the names from a byte on are left.
pub record PutBefore (before text ws : List ℕ) (from i : ℕ) (out : List ℕ) (at : ℕ) : Type 0 where
  pub front : List ℕ
  pub whole : name_lines (names text) (line_at ws) 0 ≡ front ++ name_lines (names (drop from text)) (line_at ws) i
  pub put : Put before 0 front out at
  pub within : from ≤ length text
  pub number : length (names text) ≡ i + length (names (drop from text))
  pub short : some_long (names (drop from text)) ≡ false
  pub room : at ≤ most_line * i

-- at most 256 names of at most 255 bytes
pub few_names : (text ws : List ℕ) (count : ℕ) → LineEach text ws count → (count ≤ 256) × (some_long (names text) ≡ false)
unfolding accepted
few_names text ws count e =
    let p = passed (length (names text)) (some_long (names text)) (ap (λ v. v.number) e.taken) in
    (omega (arith, e.number, p.few), p.none_long)

pub lines_none : (out text ws : List ℕ) (count : ℕ) → LineEach text ws count → PutBefore out text ws 0 0 out 0
lines_none out text ws count e =
    record {
      front = [];
      whole = refl;
      put = put_none out 0;
      within = omega arith;
      number = omega arith;
      short = (few_names text ws count e).1;
      room = omega arith;
    }

module _ (before text ws : List ℕ) (from i : ℕ) (out : List ℕ) (at : ℕ) (p : PutBefore before text ws from i out at) (name : Name)
    (next : NextName text from name) (left : i < length (names text)) where
  -- there is a name
  pub name_there : name.from < name.end
  name_there = go (look (ltb name.from name.end))
    where
      go : Is (ltb name.from name.end) → name.from < name.end
      go (is_true t) = ltb-true name.from name.end t
      go (is_false t) =
          let none = next.none (omega (arith, next.order, ltb-false name.from name.end t)) in
          absurd (omega (arith, p.number, ap length none))

  this : names (drop from text) ≡ part text name.from name.end ∷ names (drop name.end text)
  this = next.some name_there

  short_there : some_long (part text name.from name.end ∷ names (drop name.end text)) ≡ false
  short_there = ap some_long (sym this) ∙ p.short

  -- of at most 255 bytes
  pub name_short : name.end ≤ name.from + 255
  unfolding some_long
  name_short =
      let size : length (part text name.from name.end) ≡ name.end - name.from =
      part_length text name.from name.end next.within in
      let few : length (part text name.from name.end) ≤ 255 =
      ltb-false 255 (length (part text name.from name.end)) (or_neither_left _ (some_long (names (drop name.end text))) short_there) in
      omega (arith, name_there)

  pub lines_next : (out' : List ℕ) (at' : ℕ) → Put out at (line_text (part text name.from name.end) (line_figures (line_at ws i))) out' at'
      → at' ≤ at + most_line → PutBefore before text ws name.end (i + 1) out' at'
  unfolding name_lines some_long
  lines_next out' at' put room =
      let line : List ℕ = line_text (part text name.from name.end) (line_figures (line_at ws i)) in
      let rest : List ℕ = name_lines (names (drop name.end text)) (line_at ws) (i + 1) in
      record {
        front = p.front ++ line;
        whole =
            p.whole ∙ ap (λ ns. p.front ++ name_lines ns (line_at ws) i) this ∙ sym (append_assoc p.front line rest);
        put = put_then p.put put;
        within = next.within;
        number = omega (arith, p.number, ap length this);
        short =
            or_neither_right (ltb 255 (length (part text name.from name.end))) (some_long (names (drop name.end text))) short_there;
        room = omega (arith, p.room, room);
      }

-- all of them
pub lines_all : {before text ws : List ℕ} {from i : ℕ} {out : List ℕ} {at : ℕ} → PutBefore before text ws from i out at
    → length (names text) ≤ i → Put before 0 (name_lines (names text) (line_at ws) 0) out at
unfolding name_lines
lines_all {before} {text} {ws} {from} {i} p l =
    put_as (p.whole ∙ ap (λ ns. p.front ++ name_lines ns (line_at ws) i) (none (names (drop from text)) (omega (arith, p.number))) ∙ append-nil p.front) p.put
  where
    none : (ns : List (List ℕ)) → length ns ≡ 0 → ns ≡ []
    none [] e = refl
    none (n ∷ ns) e = absurd (omega (arith, e))
