-- One thing comes of a text: `FromText` allows one outcome, and every text has it.
-- Assumes nothing.
use mathlib.Core.List.{List, [], ◌++◌, append_assoc, append-nil}
use mathlib.Core.Path.{◌≡◌, refl, sym, ◌∙◌, ap, subst}
use Prim.Native.Nat.{ℕ, suc, ◌≤◌, ◌<◌}
use native.Mathlib.Omega.{arith}
use lib.Dec.{ltb}
use borrow.Author.Tests.{ltb-true, ltb-false}
use lib.ListN.{length, take, drop, take-append-drop}
use lib.Seq.{take-take, take-length}
use Rattle.lists.specs.Choice.{Is, is_true, is_false, look}
use Rattle.refusals.specs.Verdict.{refusal}
use Rattle.refusals.specs.Outcome.{Outcome}
use Rattle.qcir.specs.File.{File}
use Rattle.qcir.specs.Spelling.{Spells, Viable, SpellingFault, at_byte, at_end}
use Rattle.qcir.specs.FromText.{Limits, refused_text, of_file, FromText, too_long, misspelled, spelled, OnlyFromText, OneOutcome}
use Rattle.qcir.specs.Reading.{none_written, stored, EveryTextRead}
use Rattle.qcir_spelling.specs.Machine.{accepts, alive, start}
use Rattle.qcir_spelling.proofs.Spelling.{sound, refused, unique}

-- The start of a text with which a file begins is one.
viable_start : (most : ℕ) (text : List ℕ) (p q : ℕ) → p ≤ q → Viable most (take q text) → Viable most (take p text)
viable_start most text p q h v =
    let e : take p text ++ drop p (take q text) ≡ take q text = ap (λ (t : List ℕ). t ++ drop p (take q text)) (sym (take-take p q text h)) ∙ take-append-drop p (take q text) in
    record {
      more = drop p (take q text) ++ v.more;
      file = v.file;
      spells = subst (λ (t : List ℕ). Spells most t v.file) (ap (λ (t : List ℕ). t ++ v.more) (sym e) ∙ append_assoc (take p text) (drop p (take q text)) v.more) v.spells;
    }

-- A whole text as the start of itself.
viable_whole : (most : ℕ) (text : List ℕ) (p : ℕ) → p ≤ length text → Viable most text → Viable most (take p text)
viable_whole most text p h v = viable_start most text p (length text) h (subst (λ (t : List ℕ). Viable most t) (sym (take-length text)) v)

-- A text that is a file begins one.
viable_file : (most : ℕ) (text : List ℕ) (f : File) → Spells most text f → Viable most text
viable_file most text f s = record { more = []; file = f; spells = subst (λ (t : List ℕ). Spells most t f) (sym (append-nil text)) s }

-- Of two bytes where no file goes on, neither is before the other.
not_before : (most : ℕ) (text : List ℕ) (p q : ℕ) → (Viable most (take (suc p) text) → ⊥) → Viable most (take q text) → q ≤ p
not_before most text p q dead v = go (look (ltb p q))
  where
    go : Is (ltb p q) → q ≤ p
    go (is_true h) = absurd (dead (viable_start most text (suc p) q (let l : p < q = ltb-true p q h in omega (arith, l)) v))
    go (is_false h) = ltb-false p q h

fault_unique : (most : ℕ) (text : List ℕ) (p q : ℕ) → SpellingFault most text p → SpellingFault most text q → p ≡ q
fault_unique most text p q (at_byte r h v dead) (at_byte s k w gone) =
    let a = not_before most text p q dead w in
    let b = not_before most text q p gone v in
    omega (arith, a, b)
fault_unique most text p q (at_byte r h v dead) (at_end w none) = absurd (dead (viable_whole most text (suc p) (omega (arith, h)) w))
fault_unique most text p q (at_end v none) (at_byte s k w gone) = absurd (gone (viable_whole most text (suc q) (omega (arith, k)) v))
fault_unique most text p q (at_end v none) (at_end w never) = refl

-- A file has no fault in its spelling.
spelled_faultless : (most : ℕ) (text : List ℕ) (p : ℕ) (f : File) → Spells most text f → SpellingFault most text p → ⊥
spelled_faultless most text p f s (at_byte r h v dead) = dead (viable_whole most text (suc p) (omega (arith, h)) (viable_file most text f s))
spelled_faultless most text p f s (at_end v none) = none f s

module _ {Sizes Buffers : Type 0} (lim : Limits) (none : Sizes) (before : Buffers) (next : List ℕ → List ℕ → Outcome Sizes Buffers) (text : List ℕ) where
  pub outcome_unique : (a b : Outcome Sizes Buffers) → FromText lim none before next text a → FromText lim none before next text b → a ≡ b
  outcome_unique _ _ (too_long h) (too_long k) = refl
  outcome_unique _ _ (too_long h) (misspelled k p e) = absurd (omega (arith, h, k))
  outcome_unique _ _ (too_long h) (spelled k f s) = absurd (omega (arith, h, k))
  outcome_unique _ _ (misspelled h p e) (too_long k) = absurd (omega (arith, h, k))
  outcome_unique _ _ (misspelled h p e) (misspelled k q g) = ap (λ (n : ℕ). refused_text none before (refusal 10 n)) (fault_unique lim.names text p q e g)
  outcome_unique _ _ (misspelled h p e) (spelled k f s) = absurd (spelled_faultless lim.names text p f s e)
  outcome_unique _ _ (spelled h f s) (too_long k) = absurd (omega (arith, h, k))
  outcome_unique _ _ (spelled h f s) (misspelled k p e) = absurd (spelled_faultless lim.names text p f s e)
  outcome_unique _ _ (spelled h f s) (spelled k g t) = ap (of_file lim none before next) (unique s t)

  pub only_one : (o : Outcome Sizes Buffers) → FromText lim none before next text o → OnlyFromText lim none before next text o
  only_one o h p k = outcome_unique p o k h

  -- The outcome of a text.
  one : (o : Outcome Sizes Buffers) → FromText lim none before next text o → OneOutcome lim none before next text
  one o h = record { result = o; from_text = h; only = only_one o h }

  -- A text that is not too long is a file or has a fault in its spelling.
  short_text : 1 ≤ lim.names → length text ≤ lim.bytes → Is (accepts lim.names text) → OneOutcome lim none before next text
  short_text l h (is_true t) = let f = sound lim.names text t in one _ (spelled h f.file f.spells)
  short_text l h (is_false t) = one _ (misspelled h (alive lim.names start text) (refused lim.names text l t))

  pub every_text : 1 ≤ lim.names → OneOutcome lim none before next text
  every_text l = go (look (ltb lim.bytes (length text)))
    where
      go : Is (ltb lim.bytes (length text)) → OneOutcome lim none before next text
      go (is_true h) = one _ (too_long (ltb-true _ _ h))
      go (is_false h) = short_text l (ltb-false _ _ h) (look (accepts lim.names text))

pub every_text_read : EveryTextRead
every_text_read lim text before l = every_text lim none_written before (stored before) text l
