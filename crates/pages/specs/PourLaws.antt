-- What pouring a row and emptying one leave in every row.
use Rattle.std.specs.Prelude.{ℕ, suc, ◌+◌, ◌*◌, ◌/◌, ◌%◌, ◌≤◌, ◌<◌, false, ◌||◌, List, ◌≡◌, length}
use Rattle.std.proofs.Common.{⊎_elim, sym, ap, ◌∙◌, arith, length-set, get_or-set_same, get_or-set_other}
use Rattle.std.proofs.Math.Path.{refl}
use Rattle.std.specs.Int.Bits.{bit_or}
use Rattle.numbers.specs.CaseLaws.{equal}
use Rattle.numbers.specs.Limits.{PAGES, SET_WORDS}
use Rattle.table.specs.RepeatLaws.{repeat_keeps}
use Rattle.pages.specs.Bits.{has_bit}
use Rattle.pages.specs.Columns.{column_word}
use Rattle.pages.specs.ColumnLaws.{holds_word}
use Rattle.pages.specs.Pour.{set_column, pour_column, pour, empty_column, emptied}
use Rattle.pages.specs.Rows.{holds}
use Rattle.pages.specs.WordLaws.{has_bit-zero, has_bit-or}

-- ---- one word set: every other word of every row stays
word_same : (sets : List ℕ) (row k v : ℕ) → row * SET_WORDS + k < length sets → column_word (set_column sets row k v) row k ≡ v
word_same sets row k v h = get_or-set_same sets (row * SET_WORDS + k) v 0 h

word_other : (sets : List ℕ) (row k row' k' v : ℕ) → k < SET_WORDS → k' < SET_WORDS → (row' ≡ row → k' ≡ k → ⊥) → column_word (set_column sets row k v) row' k' ≡ column_word sets row' k'
word_other sets row k row' k' v h h' n = get_or-set_other sets (row * SET_WORDS + k) (row' * SET_WORDS + k') v 0 (λ e. let q : row' ≡ row = omega arith in n q (omega arith))

-- ---- a page of a row, by its column; rows whose words there are alike hold it alike
at : (page : ℕ) (ws : List ℕ) (row : ℕ) → holds ws row page ≡ has_bit (column_word ws row (page / 64)) (page % 64)
at page ws row = let e : page / 64 * 64 + page % 64 ≡ page = omega arith in rw e at (holds_word ws (page / 64) (page % 64) (omega arith) row)

holds_alike : (page : ℕ) (ws vs : List ℕ) (row : ℕ) → column_word ws row (page / 64) ≡ column_word vs row (page / 64) → holds ws row page ≡ holds vs row page
holds_alike page ws vs row e = at page ws row ∙ ap (λ (w : ℕ). has_bit w (page % 64)) e ∙ sym (at page vs row)

pub holds_none : (page : ℕ) (ws : List ℕ) (row : ℕ) → column_word ws row (page / 64) ≡ 0 → holds ws row page ≡ false
holds_none page ws row e = at page ws row ∙ ap (λ (w : ℕ). has_bit w (page % 64)) e ∙ has_bit-zero (page % 64)

-- ---- no length changes
pub length-pour : (sets : List ℕ) (from to : ℕ) → length (pour sets from to) ≡ length sets
unfolding pour
length-pour sets from to =
    repeat_keeps (pour_column from to) (λ k ws. length ws ≡ length sets) SET_WORDS
    (λ k ws l e. length-set (set_column ws to k _) (from * SET_WORDS + k) 0 ∙ length-set ws (to * SET_WORDS + k) _ ∙ e) sets refl

pub length-emptied : (sets : List ℕ) (row : ℕ) → length (emptied sets row) ≡ length sets
unfolding emptied
length-emptied sets row = repeat_keeps (empty_column row) (λ k ws. length ws ≡ length sets) SET_WORDS (λ k ws l e. length-set ws (row * SET_WORDS + k) 0 ∙ e) sets refl

-- ---- pouring
module _ (sets : List ℕ) (from to : ℕ) (apart : from ≡ to → ⊥) (a : (from + 1) * SET_WORDS ≤ length sets) (b : (to + 1) * SET_WORDS ≤ length sets) where
  record Poured (k : ℕ) (ws : List ℕ) : Type 0 where
    long : length ws ≡ length sets
    there : (j : ℕ) → j < k → j < SET_WORDS → column_word ws to j ≡ bit_or (column_word sets to j) (column_word sets from j)
    gone : (j : ℕ) → j < k → j < SET_WORDS → column_word ws from j ≡ 0
    rest : (row j : ℕ) → j < SET_WORDS → (j < k → (row ≡ from → ⊥) × (row ≡ to → ⊥)) → column_word ws row j ≡ column_word sets row j

  next : (k : ℕ) (ws : List ℕ) → k < SET_WORDS → Poured k ws → Poured (suc k) (pour_column from to k ws)
  next k ws h p =
      record {
        long = length-set once (from * SET_WORDS + k) 0 ∙ length-set ws (to * SET_WORDS + k) _ ∙ p.long;
        there = λ j l m. word_other once from k to j 0 h m (λ q e. apart (sym q)) ∙ ⊎_elim (λ e. rw e fresh) (λ d. word_other ws to k to j _ h m (λ q e. d e) ∙ p.there j (omega arith) m) (equal j k);
        gone = λ j l m. ⊎_elim (λ e. rw e (word_same once from k 0 inside)) (λ d. word_other once from k from j 0 h m (λ q e. d e) ∙ word_other ws to k from j _ h m (λ q e. apart q) ∙ p.gone j (omega arith) m) (equal j k);
        rest = λ row j m c. word_other once from k row j 0 h m (λ q e. (c (omega arith)).0 q) ∙ word_other ws to k row j _ h m (λ q e. (c (omega arith)).1 q) ∙ p.rest row j m (λ l. c (omega arith));
      }
    where
      once : List ℕ
      once = set_column ws to k (bit_or (column_word ws to k) (column_word ws from k))

      inside : from * SET_WORDS + k < length once
      inside = omega (arith, length-set ws (to * SET_WORDS + k) (bit_or (column_word ws to k) (column_word ws from k)), p.long)

      fresh : column_word once to k ≡ bit_or (column_word sets to k) (column_word sets from k)
      fresh =
          word_same ws to k _ (omega (arith, p.long))
          ∙ rw (p.rest to k h (λ l. absurd (omega arith)), p.rest from k h (λ l. absurd (omega arith)))

  poured : Poured SET_WORDS (pour sets from to)
  unfolding pour
  poured =
      repeat_keeps (pour_column from to) Poured SET_WORDS next sets
      (record { long = refl; there = λ j l. absurd (omega arith); gone = λ j l. absurd (omega arith); rest = λ row j m c. refl })

  module _ (page : ℕ) (h : page < PAGES) where
    pub pour_to : holds (pour sets from to) to page ≡ (holds sets to page || holds sets from page)
    pour_to =
        at page (pour sets from to) to
        ∙ ap (λ (w : ℕ). has_bit w (page % 64)) (poured.there (page / 64) (omega arith) (omega arith))
        ∙ has_bit-or (column_word sets to (page / 64)) (column_word sets from (page / 64)) (page % 64)
        ∙ sym (rw (at page sets to, at page sets from))

    pub pour_from : holds (pour sets from to) from page ≡ false
    pour_from = holds_none page (pour sets from to) from (poured.gone (page / 64) (omega arith) (omega arith))

    pub pour_other : (row : ℕ) → (row ≡ from → ⊥) → (row ≡ to → ⊥) → holds (pour sets from to) row page ≡ holds sets row page
    pour_other row n m = holds_alike page (pour sets from to) sets row (poured.rest row (page / 64) (omega arith) (λ l. (n, m)))

-- ---- emptying
module _ (sets : List ℕ) (row : ℕ) (a : (row + 1) * SET_WORDS ≤ length sets) where
  record Emptied (k : ℕ) (ws : List ℕ) : Type 0 where
    long : length ws ≡ length sets
    gone : (j : ℕ) → j < k → j < SET_WORDS → column_word ws row j ≡ 0
    rest : (row' j : ℕ) → j < SET_WORDS → (row' ≡ row → ⊥) → column_word ws row' j ≡ column_word sets row' j

  more : (k : ℕ) (ws : List ℕ) → k < SET_WORDS → Emptied k ws → Emptied (suc k) (empty_column row k ws)
  more k ws h p =
      record {
        long = length-set ws (row * SET_WORDS + k) 0 ∙ p.long;
        gone = λ j l m. ⊎_elim (λ e. rw e (word_same ws row k 0 (omega (arith, p.long)))) (λ d. word_other ws row k row j 0 h m (λ q e. d e) ∙ p.gone j (omega arith) m) (equal j k);
        rest = λ row' j m n. word_other ws row k row' j 0 h m (λ q e. n q) ∙ p.rest row' j m n;
      }

  empty : Emptied SET_WORDS (emptied sets row)
  unfolding emptied
  empty = repeat_keeps (empty_column row) Emptied SET_WORDS more sets (record { long = refl; gone = λ j l. absurd (omega arith); rest = λ row' j m n. refl })

  module _ (page : ℕ) (h : page < PAGES) where
    pub emptied_same : holds (emptied sets row) row page ≡ false
    emptied_same = holds_none page (emptied sets row) row (empty.gone (page / 64) (omega arith) (omega arith))

    pub emptied_other : (row' : ℕ) → (row' ≡ row → ⊥) → holds (emptied sets row) row' page ≡ holds sets row' page
    emptied_other row' n = holds_alike page (emptied sets row) sets row' (empty.rest row' (page / 64) (omega arith) n)
