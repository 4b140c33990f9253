-- The two ways of a text: it is refused by one of its refusals, at a position and with no users, or its file's table is gone on with.
-- Every call that begins with a text goes the same way.
-- Assumes nothing.
use mathlib.Core.Bool.{Bool, true, false}
use mathlib.Core.List.{List}
use mathlib.Core.Path.{◌≡◌, refl, sym, ◌∙◌, ap, subst}
use Prim.Native.Nat.{ℕ}
use Rattle.lists.specs.Choice.{pick, clash}
use Rattle.lists.specs.Members.{mem}
use Rattle.refusals.specs.Verdict.{refusal, accepted, Plain}
use Rattle.refusals.specs.Outcome.{Outcome, refused, done}
use Rattle.refusals.specs.declared.Verdict.{Verdict}
use Rattle.refusals.proofs.Outcome.{call_next, call_refused}
use Rattle.refusals.proofs.Plain.{plain_refusal, plain_accepted, plain_room}
use Rattle.qcir.specs.File.{File}
use Rattle.qcir.specs.Spelling.{Spells}
use Rattle.qcir.specs.Table.{table_words, table_list}
use Rattle.qcir.specs.FromText.{Limits, unless_any, name_verdict, size_verdict, text_refusals, refused_text, of_table, of_file, FromText, too_long, misspelled, spelled}
use Rattle.qcir.specs.Reading.{Written, Buffers, none_written, done_with, stored, Reading}

-- A verdict that accepts, or refuses a text.
data OfText : Verdict → Type 0 where
  passes : OfText accepted
  refuses : (number position : ℕ) → mem number text_refusals ≡ true → OfText (refusal number position)

pick_of : (t : Bool) (a b : Verdict) → OfText a → OfText b → OfText (pick t a b)
unfolding pick
pick_of true a b p q = p
pick_of false a b p q = q

any_of : (faults : List ℕ) (number : ℕ) (next : Verdict) → mem number text_refusals ≡ true → OfText next → OfText (unless_any faults number next)
unfolding unless_any
any_of faults number next m p = pick_of _ next _ p (refuses number _ m)

names_of : (f : File) → OfText (name_verdict f)
unfolding name_verdict text_refusals mem
names_of f = any_of _ 11 _ refl (any_of _ 13 _ refl (any_of _ 12 _ refl passes))

sizes_of : (lim : Limits) (ws : List ℕ) → OfText (size_verdict lim ws)
unfolding size_verdict text_refusals mem
sizes_of lim ws = pick_of _ _ _ (refuses 2 0 refl) (pick_of _ _ _ (refuses 6 _ refl) passes)

-- A number that is not among the refusals of texts is not the number of one.
pub no_refusal : (k number : ℕ) → mem k text_refusals ≡ false → mem number text_refusals ≡ true → number ≡ k → ⊥
no_refusal k number h m e = clash m (ap (λ (i : ℕ). mem i text_refusals) e ∙ h)

not_done : (number position : ℕ) → mem number text_refusals ≡ true → (refusal number position).number ≡ 0 → ⊥
unfolding refusal text_refusals mem
not_done number position m = no_refusal 0 number refl m

-- What comes of a file, by its two verdicts.
module _ {Sizes Buffers : Type 0} (lim : Limits) (none : Sizes) (before : Buffers) (next : List ℕ → List ℕ → Outcome Sizes Buffers) (f : File) where
  names_refuse : (v : Verdict) → name_verdict f ≡ v → (v.number ≡ 0 → ⊥) → of_file lim none before next f ≡ refused_text none before v
  unfolding of_file refused_text
  names_refuse v e n = subst (λ (w : Verdict). of_file lim none before next f ≡ refused_text none before w) e (call_refused none before _ (name_verdict f) (λ z. n (sym (ap (λ (w : Verdict). w.number) e) ∙ z)))

  names_pass_lem : (name_verdict f).number ≡ 0 → of_file lim none before next f ≡ of_table lim none before next f
  unfolding of_file
  names_pass_lem z = call_next none before _ (name_verdict f) z

  sizes_refuse : (v : Verdict) → size_verdict lim (table_words f) ≡ v → (v.number ≡ 0 → ⊥) → of_table lim none before next f ≡ refused_text none before v
  unfolding of_table refused_text
  sizes_refuse v e n = subst (λ (w : Verdict). of_table lim none before next f ≡ refused_text none before w) e (call_refused none before _ (size_verdict lim (table_words f)) (λ z. n (sym (ap (λ (w : Verdict). w.number) e) ∙ z)))

  sizes_pass : (size_verdict lim (table_words f)).number ≡ 0 → of_table lim none before next f ≡ next (table_words f) (table_list f)
  unfolding of_table
  sizes_pass z = call_next none before _ (size_verdict lim (table_words f)) z

-- Two calls that begin with one text.
module _ {Sizes Buffers Sizes' Buffers' : Type 0} (lim : Limits) (none : Sizes) (before : Buffers) (next : List ℕ → List ℕ → Outcome Sizes Buffers) (none' : Sizes') (before' : Buffers') (next' : List ℕ → List ℕ → Outcome Sizes' Buffers') (text : List ℕ) where
  pub data Ways : Outcome Sizes Buffers → Type 0 where
    both_refused : (number position : ℕ) → mem number text_refusals ≡ true
        → FromText lim none' before' next' text (refused_text none' before' (refusal number position))
        → Ways (refused_text none before (refusal number position))
    both_go_on : (f : File) → Spells lim.names text f → (name_verdict f).number ≡ 0 → (size_verdict lim (table_words f)).number ≡ 0
        → FromText lim none' before' next' text (next' (table_words f) (table_list f))
        → Ways (next (table_words f) (table_list f))

  pub ways : (o : Outcome Sizes Buffers) → FromText lim none before next text o → Ways o
  unfolding text_refusals mem accepted
  ways _ (too_long h) = both_refused 10 0 refl (too_long h)
  ways _ (misspelled h p e) = both_refused 10 p refl (misspelled h p e)
  ways _ (spelled h f s) = by_names (name_verdict f) refl (names_of f)
    where
      From : Outcome Sizes' Buffers' → Type 0
      From = FromText lim none' before' next' text

      by_sizes : (name_verdict f).number ≡ 0 → (v : Verdict) → size_verdict lim (table_words f) ≡ v → OfText v → Ways (of_file lim none before next f)
      by_sizes z _ e passes =
          let y = ap (λ (v : Verdict). v.number) e in
          subst Ways (sym (names_pass_lem lim none before next f z ∙ sizes_pass lim none before next f y))
          (both_go_on f s z y (subst From (names_pass_lem lim none' before' next' f z ∙ sizes_pass lim none' before' next' f y) (spelled h f s)))
      by_sizes z _ e (refuses number position m) =
          let n = not_done number position m in
          subst Ways (sym (names_pass_lem lim none before next f z ∙ sizes_refuse lim none before next f _ e n))
          (both_refused number position m (subst From (names_pass_lem lim none' before' next' f z ∙ sizes_refuse lim none' before' next' f _ e n) (spelled h f s)))

      by_names : (v : Verdict) → name_verdict f ≡ v → OfText v → Ways (of_file lim none before next f)
      by_names _ e passes = by_sizes (ap (λ (v : Verdict). v.number) e) (size_verdict lim (table_words f)) refl (sizes_of lim (table_words f))
      by_names _ e (refuses number position m) =
          let n = not_done number position m in
          subst Ways (sym (names_refuse lim none before next f _ e n))
          (both_refused number position m (subst From (names_refuse lim none' before' next' f _ e n) (spelled h f s)))

-- What holds of every refusal of a text, and of all that comes of a table, holds of what comes of the text.
module _ {Sizes Buffers : Type 0} (lim : Limits) (none : Sizes) (before : Buffers) (next : List ℕ → List ℕ → Outcome Sizes Buffers) (text : List ℕ) (P : Outcome Sizes Buffers → Type 0) where
  pub from_text : ((number position : ℕ) → mem number text_refusals ≡ true → P (refused_text none before (refusal number position)))
      → ((f : File) → Spells lim.names text f → (name_verdict f).number ≡ 0 → (size_verdict lim (table_words f)).number ≡ 0 → P (next (table_words f) (table_list f)))
      → (o : Outcome Sizes Buffers) → FromText lim none before next text o → P o
  from_text refusing going o h = go o (ways lim none before next none before next text o h)
    where
      go : (q : Outcome Sizes Buffers) → Ways lim none before next none before next text q → P q
      go _ (both_refused number position m _) = refusing number position m
      go _ (both_go_on f s n z _) = going f s n z

-- The answer of a reading holds a number and a position, and no users: refusal 8 is not among a reading's.
pub reading_plain : (lim : Limits) (text : List ℕ) (before : Buffers) (o : Outcome Written Buffers) → Reading lim text before o → Plain o.answer.verdict
unfolding refused_text refused stored done_with done
reading_plain lim text before o h =
    from_text lim none_written before (stored before) text (λ (q : Outcome Written Buffers). Plain q.answer.verdict)
    (λ number position m. plain_refusal number position)
    (λ f s n z. plain_room none_written before (done_with (table_words f) (table_list f) before) plain_accepted _)
    o h
