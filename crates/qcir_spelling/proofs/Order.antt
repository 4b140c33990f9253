-- The tokens of a file that a text spells stand in the order of the text, and their numbers are 1 to the limit.
-- Assumes nothing.
use mathlib.Core.Path.{◌≡◌, refl, sym, ◌∙◌, ap, subst}
use mathlib.Core.Bool.{Bool, true, false, not, ◌&&◌, ◌||◌}
use mathlib.Core.List.{List, [], ◌∷◌, ◌++◌}
use Prim.Native.Nat.{ℕ, suc, ◌≤◌, ◌<◌}
use native.Mathlib.Omega.{arith}
use lib.Dec.{eqb, leb}
use lib.ListN.{length, get_or}
use borrow.Author.Tests.{eqb-true, le-leb, not-true}
use Rattle.lists.specs.Choice.{pick, pick_yes, pick_no, and_left, and_right, and_both, or_cases, clash, Is, is_true, is_false, look}
use Rattle.qcir.specs.File.{Name, File}
use Rattle.qcir.specs.Spelling.{Sign, word, name, newline, is_numeral, value_from, Spelled, end, space, a_word, a_name, at_line_end, blank_line, comment_line, Spells, file_signs}
use Rattle.qcir_tokens.specs.Tokens.{Token, token, empty_role, file_tokens, ascending, numbered}
use Rattle.qcir_spelling.specs.Machine.{Arrow, Row, row, arrow, arrow_of, point, points}
use Rattle.qcir_spelling.proofs.Rows.{choose, every, passes, every_arrow, arrow_passes}
use Rattle.qcir_spelling.proofs.Signs.{line_end, go, after, closes, emitted, after_from}
use Rattle.qcir_spelling.proofs.Files.{Takes, file_takes}
use Rattle.qcir_spelling.proofs.Runs.{no_name}
use Rattle.texts.proofs.Numerals.{numeral_value}

abbrev InRange : ℕ → Name → Type 0
InRange most x = (1 ≤ x.number) × (x.number ≤ most)

-- The names stand from position p on, in their order, and are in range.
data Orderly (most : ℕ) : ℕ → List Sign → Type 0 where
  no_signs : {p : ℕ} → Orderly most p []
  after_word_lem : {p : ℕ} (w : List ℕ) {ss : List Sign} → Orderly most p ss → Orderly most p (word w ∷ ss)
  after_line : {p : ℕ} {ss : List Sign} → Orderly most p ss → Orderly most p (newline ∷ ss)
  after_name : {p : ℕ} (x : Name) {ss : List Sign} → p ≤ x.position → InRange most x → Orderly most (suc x.position) ss → Orderly most p (name x ∷ ss)

numeral_long : (ds : List ℕ) → is_numeral ds ≡ true → 1 ≤ length ds
unfolding is_numeral
numeral_long [] h = clash h refl
numeral_long (d ∷ ds) h = omega arith

spelled_orderly : {most p : ℕ} {ss : List Sign} {t : List ℕ} → Spelled most p ss t → (q : ℕ) → q ≤ p → Orderly most q ss
spelled_orderly end q l = no_signs
spelled_orderly (space h d) q l = spelled_orderly d q (omega arith)
spelled_orderly (a_word w d) q l = after_word_lem w (spelled_orderly d q (omega arith))
spelled_orderly {p = p} (a_name ds h m d) q l =
    let g = numeral_long ds h in
    after_name (record { number = value_from 0 ds; position = p }) l (numeral_value ds h, m) (spelled_orderly d (suc p) (omega arith))
spelled_orderly (at_line_end d) q l = after_line (spelled_orderly d q (omega arith))
spelled_orderly (blank_line d) q l = spelled_orderly d q (omega arith)
spelled_orderly (comment_line gap note g h d) q l = spelled_orderly d q (omega arith)

-- The last name at a point: 0 none that matters, 1 one that has no token yet, 2 one that has its token and may have another.
unfoldable kind : ℕ → ℕ
kind c =
    get_or
    (0 ∷ 0 ∷ 0 ∷ 0 ∷ 0 ∷ 1 ∷ 0 ∷ 1 ∷ 0 ∷ 0 ∷ 0 ∷ 1 ∷ 0 ∷ 0 ∷ 1 ∷ 0 ∷ 1 ∷ 0 ∷ 0 ∷ 0 ∷ 0 ∷ 1 ∷ 1 ∷ 0 ∷ 0 ∷ 1 ∷ 1 ∷ 1 ∷ 1 ∷ 1 ∷ 1 ∷ 1 ∷ 2
    ∷ 0 ∷ 0 ∷ 1 ∷ 1 ∷ 0 ∷ 0 ∷ 1 ∷ 1 ∷ 0 ∷ 0 ∷ 1 ∷ 0 ∷ 1 ∷ 1 ∷ []) c 0

unfoldable fresh : ℕ → Bool
fresh c = eqb (kind c) 1

unfoldable known : ℕ → Bool
known c = not (eqb (kind c) 0)

unfoldable arrow_test : ℕ → Arrow → Bool
arrow_test c a =
    (not (known a.target) || known c)
    && pick (eqb a.role 0) (not (fresh a.target) || fresh c) (not (fresh a.target) && (known c && (eqb a.role empty_role || fresh c)))

unfoldable word_test : ℕ → Row → Bool
word_test c r = every_arrow (arrow_test c) r.words

word_row : (c : ℕ) → word_test c (point c) ≡ true
unfolding word_test arrow_test kind fresh known every every_arrow points row arrow pick
word_row = passes word_test (λ c. refl) refl

word_test_lem : (c : ℕ) (w : List ℕ) → ((arrow_of w (point c).words).target ≡ 0 → ⊥) → arrow_test c (arrow_of w (point c).words) ≡ true
unfolding word_test
word_test_lem c w n = (arrow_passes (arrow_test c) w (point c).words (word_row c) n).0

unfoldable end_test : ℕ → Row → Bool
end_test c r = eqb r.ended 0 || eqb (kind r.ended) 0

end_row : (c : ℕ) → end_test c (point c) ≡ true
unfolding end_test kind every points row
end_row = passes end_test (λ c. refl) refl

-- What is known at point c, x being the last name: the next name stands from p on, the next token's from q on.
record Held (most c q p : ℕ) (x : Name) : Type 0 where
  low : q ≤ p
  new : fresh c ≡ true → (q ≤ x.position) × (x.position < p)
  ranged : known c ≡ true → InRange most x

none_held : {most c q p : ℕ} {x : Name} → kind c ≡ 0 → q ≤ p → Held most c q p x
unfolding fresh known
none_held e l = record { low = l; new = λ h. clash h (ap (λ k. eqb k 1) e); ranged = λ h. clash h (ap (λ k. not (eqb k 0)) e) }

line_held : {most c q p : ℕ} {x : Name} → Held most c q p x → (line_end c ≡ 0 → ⊥) → Held most (line_end c) q p x
unfolding line_end end_test
line_held {most} {c} {q} {p} {x} h n =
    choose (λ k. (k ≡ 0 → ⊥) → Held most k q p x) (point c).starts c (point c).ended (λ e m. h)
    (λ e m.
    or_cases (eqb (point c).ended 0) (eqb (kind (point c).ended) 0) (end_row c) (λ z. absurd (m (eqb-true _ 0 z)))
    (λ z. none_held (eqb-true _ 0 z) h.low)) n

not_or : (a b : Bool) → (not a || b) ≡ true → a ≡ true → b ≡ true
not_or a b h k = or_cases (not a) b h (λ e. clash k (not-true a e)) (λ e. e)

name_held : {most c q p : ℕ} {y x : Name} (d : ℕ) → Held most c q p y → p ≤ x.position → InRange most x → Held most d q (suc x.position) x
name_held d h l r = let m = h.low in record { low = omega arith; new = λ f. (omega arith, omega arith); ranged = λ f. r }

abbrev Fine : ℕ → ℕ → List Token → Type 0
Fine most q ts = (ascending q ts ≡ true) × (numbered most ts ≡ true)

-- a word that ends no token
silent_held : {most c q p : ℕ} {x : Name} (a : Arrow) → arrow_test c a ≡ true → eqb a.role 0 ≡ true → Held most c q p x → Held most a.target q p x
unfolding arrow_test
silent_held {c = c} a t e h =
    let known_stays : (not (known a.target) || known c) ≡ true = and_left _ _ t in
    let fresh_stays : (not (fresh a.target) || fresh c) ≡ true =
    sym (pick_yes _ (not (fresh a.target) || fresh c) _ e) ∙ and_right (not (known a.target) || known c) _ t in
    record {
      low = h.low;
      new = λ f. h.new (not_or (fresh a.target) (fresh c) fresh_stays f);
      ranged = λ f. h.ranged (not_or (known a.target) (known c) known_stays f);
    }

-- a word that ends a token
token_fine : {most c q p : ℕ} {x : Name} (a : Arrow) (rest : List Token) → arrow_test c a ≡ true → eqb a.role 0 ≡ false → Held most c q p x
    → ((q : ℕ) → Held most a.target q p x → Fine most q rest) → Fine most q (token a.role x ∷ rest)
unfolding arrow_test ascending numbered token
token_fine {most} {c} {q} {p} {x} a rest t e h next =
    let known_stays : (not (known a.target) || known c) ≡ true = and_left _ _ t in
    let ends : (not (fresh a.target) && (known c && (eqb a.role empty_role || fresh c))) ≡ true =
    sym (pick_no _ (not (fresh a.target) || fresh c) _ e) ∙ and_right (not (known a.target) || known c) _ t in
    let stale : fresh a.target ≡ false = not-true _ (and_left (not (fresh a.target)) _ ends) in
    let rest_ends = and_right (not (fresh a.target)) _ ends in
    let r : InRange most x = h.ranged (and_left (known c) _ rest_ends) in
    let held : (q : ℕ) → q ≤ p → Held most a.target q p x = λ q l. record { low = l; new = λ f. clash f stale; ranged = λ f. r } in (
      by (look (eqb a.role empty_role)) (and_right (known c) _ rest_ends) (next q (held q h.low))
          (λ l. next (suc x.position) (held (suc x.position) l)),
      and_both (leb 1 x.number && leb x.number most) _ (and_both _ _ (le-leb 1 x.number r.0) (le-leb x.number most r.1)) (next q (held q h.low)).1,
    )
  where
    by : Is (eqb a.role empty_role) → (eqb a.role empty_role || fresh c) ≡ true → Fine most q rest
        → (suc x.position ≤ p → Fine most (suc x.position) rest)
        → pick (eqb a.role empty_role) (ascending q rest) (leb q x.position && ascending (suc x.position) rest) ≡ true
    by (is_true z) k f g = pick_yes _ _ _ z ∙ f.0
    by (is_false z) k f g =
        let n = h.new (or_cases (eqb a.role empty_role) (fresh c) k (λ o. clash o z) (λ o. o)) in
        pick_no _ _ _ z ∙ and_both (leb q x.position) _ (le-leb q x.position n.0) (g n.1).0

emitted_fine : {most p : ℕ} {ss : List Sign} → Orderly most p ss → (c q : ℕ) (x : Name) → Held most c q p x → (after c ss ≡ 0 → ⊥) → Fine most q (emitted c x ss)
unfolding after go emitted closes ascending numbered
emitted_fine no_signs c q x h n = (refl, refl)
emitted_fine {most} (after_word_lem w {ss} o) c q x h n =
    let a : Arrow = arrow_of w (point c).words in
    let t : arrow_test c a ≡ true = word_test_lem c w (after_from a.target ss n) in
    choose (λ (us : List Token). Fine most q (us ++ emitted a.target x ss)) (eqb a.role 0) [] (token a.role x ∷ [])
    (λ e. emitted_fine o a.target q x (silent_held a t e h) n)
    (λ e. token_fine a (emitted a.target x ss) t e h (λ q' h'. emitted_fine o a.target q' x h' n))
emitted_fine (after_line {ss = ss} o) c q x h n = emitted_fine o (line_end c) q x (line_held h (after_from (line_end c) ss n)) n
emitted_fine (after_name x o_low r o) c q y h n = emitted_fine o (point c).named q x (name_held (point c).named h o_low r) n

kind_1 : kind 1 ≡ 0
unfolding kind
kind_1 = refl

-- The tokens of a file that a text spells.
spells_fine : {most : ℕ} {text : List ℕ} {f : File} → Spells most text f → Fine most 0 (file_tokens f)
spells_fine {most} {text} {f} s =
    let t : Takes 1 no_name (newline ∷ file_signs f) (file_tokens f) = file_takes f no_name in
    let o : Orderly most 0 (newline ∷ file_signs f) = spelled_orderly s.spelled 0 (omega arith) in
    subst (λ ts. Fine most 0 ts) t.1 (emitted_fine o 1 0 no_name (none_held kind_1 (omega arith)) (λ z. omega (arith, t.0)))

pub ordered : {most : ℕ} {text : List ℕ} {f : File} → Spells most text f → ascending 0 (file_tokens f) ≡ true
ordered s = (spells_fine s).0

pub ranged : {most : ℕ} {text : List ℕ} {f : File} → Spells most text f → numbered most (file_tokens f) ≡ true
ranged s = (spells_fine s).1
