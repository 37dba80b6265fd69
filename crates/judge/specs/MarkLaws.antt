-- The pass over the pairs: how it begins, what a word adds, where it fails, and what it gives at the end.
use Prim.Native.Nat.{ℕ, zero, suc, ◌+◌, ◌*◌, ◌/◌, ◌%◌, ◌^◌, ◌≤◌, ◌<◌}
use Rattle.std.specs.Prelude.{Bool, true, false, ◌&&◌, ◌||◌, List, [], ◌∷◌, ◌++◌, ◌⊎◌, ◌≡◌, length, take, replicate}
use Rattle.std.proofs.Common.{true≢false, inl, inr, sym, ap, ◌∙◌, arith, take_all}
use Rattle.std.proofs.Math.Logic.{⊎_elim}
use Rattle.std.proofs.Math.Path.{refl}
use Rattle.std.proofs.Math.Nat.{zero-div}
use borrow.Author.Tests.{eq-eqb, eqb-true}
use Rattle.std.proofs.Math.Dec.{eqb}
use Rattle.std.proofs.Math.ListN.{get_or}
use Rattle.std.proofs.lemmas.List.{length-replicate}
use Rattle.numbers.specs.CaseLaws.{cases, equal}
use Rattle.numbers.specs.DecidesLaws.{says_yes, says_no, refutes, decides_or, decides_equal, same_answer}
use Rattle.numbers.specs.Limits.{PAGES, VMS, SET_WORDS}
use Rattle.numbers.specs.Packing.{left_of, right_of, page_of, filled_of, pair_key_of}
use Rattle.table.specs.ScanLaws.{has_any, any_true}
use Rattle.table.specs.Table.{Has, Distinct}
use Rattle.pages.specs.Bits.{contains}
use Rattle.pages.specs.Rows.{holds, add}
use Rattle.pages.specs.RowLaws.{holds_add_same, holds_add_other, length-add}
use Rattle.model.specs.EarlyLaws.{both}
use Rattle.model.specs.Valid.{KnownGood, PairGood, PairsGood}
use Rattle.model.specs.Views.{owns, is_filled, joins, on_page, shares}
use Rattle.judge.specs.MoreLaws.{take_more, has_take, has_more_old, has_more_new, has_more_inv, distinct_more}
use Rattle.judge.specs.Parts.{NotEmpty}
use Rattle.judge.specs.Sharing.{OneOwner, borrower_of, Marked, Marks, Marking, Lends, PairsJudged}
use Rattle.judge.specs.SharingLaws.{Parted, parted, end_is, is_end_lem, same_key, same_mark}

-- ---- one word of the pairs
module _ (pages known : ℕ) (sets lent : List ℕ) (w : ℕ) where
  pub marked_empty : w ≡ 0 → Marked pages known sets w lent lent true
  marked_empty z = record { exact = says_yes (λ f. absurd (f z)); empty = λ _. refl; filled = λ _ f. absurd (f z) }

  pub marked_bad : NotEmpty w → (PairGood pages known sets w → holds lent (borrower_of sets w) (page_of w) ≡ false → ⊥) → Marked pages known sets w lent lent false
  marked_bad f n =
      record {
        exact = says_no (λ h. let (g, m) = h f in n g m);
        empty = λ _. refl;
        filled = λ e. absurd (true≢false (sym e));
      }

  pub marked_new : (lent' : List ℕ) → NotEmpty w → PairGood pages known sets w → holds lent (borrower_of sets w) (page_of w) ≡ false → lent' ≡ add lent (borrower_of sets w) (page_of w) → Marked pages known sets w lent lent' true
  marked_new lent' f g m e = record { exact = says_yes (λ _. (g, m)); empty = λ z. absurd (f z); filled = λ _ _. e }

-- ---- a page more in a set
module _ (sets : List ℕ) (row page : ℕ) (p : page < PAGES) (row' page' : ℕ) (p' : page' < PAGES) where
  here_or : ((row ≡ row') × (page ≡ page')) ⊎ (row ≡ row' → page ≡ page' → ⊥)
  here_or = ⊎_elim (λ r. ⊎_elim (λ q. inl (r, q)) (λ n. inr (λ _ q. n q)) (equal page page')) (λ n. inr (λ r _. n r)) (equal row row')

  holds_add_inv : holds (add sets row page) row' page' ≡ true → ((row ≡ row') × (page ≡ page')) ⊎ (holds sets row' page' ≡ true)
  holds_add_inv t = ⊎_elim (λ e. inl e) (λ n. inr (sym (holds_add_other sets row page row' page' p p' n) ∙ t)) here_or

  holds_add_keep : (row + 1) * SET_WORDS ≤ length sets → holds sets row' page' ≡ true → holds (add sets row page) row' page' ≡ true
  holds_add_keep l t =
      ⊎_elim (λ e. rw (← e.0, ← e.1) (holds_add_same sets row page p l)) (λ n. holds_add_other sets row page row' page' p p' n ∙ t) here_or

-- no page in empty sets
zeros_hold : (n row page : ℕ) → holds (replicate n 0) row page ≡ false
unfolding contains
zeros_hold n row page = rw (at n ((row * PAGES + page) / 64), zero-div (2 ^ ((row * PAGES + page) % 64)))
  where
    at : (n i : ℕ) → get_or (replicate {A = ℕ} n 0) i 0 ≡ 0
    at zero i = refl
    at (suc n) zero = refl
    at (suc n) (suc i) = at n i

module _ (pages known : ℕ) (sets : List ℕ) (most : pages ≤ PAGES) (known-good : KnownGood known) (one : OneOwner pages sets) where
  pub mark_start : (pairs lent : List ℕ) → lent ≡ replicate (VMS * SET_WORDS) 0 → Marking pages known sets pairs lent 0
  unfolding Distinct
  mark_start pairs lent e =
      record {
        place = omega arith;
        good = record { each = λ w h. absurd (omega (arith, h.within)); once = λ i j l h. absurd (omega arith) };
        marks = record {
          size = rw e (length-replicate {A = ℕ} (VMS * SET_WORDS) 0);
          each = λ w h. absurd (omega (arith, h.within));
          only = λ vm page p t. absurd (true≢false (sym t ∙ rw e (zeros_hold (VMS * SET_WORDS) vm page)));
        };
      }

  -- ---- one word more
  module _ (ps lent : List ℕ) (w : ℕ) (good : PairsGood pages known sets ps) (marks : Marks sets ps lent) where
    good_empty : w ≡ 0 → PairsGood pages known sets (ps ++ (w ∷ []))
    good_empty z =
        record {
          each = λ u h. ⊎_elim (good.each u) (λ n. absurd (n.1 z)) (has_more_inv ps w u h);
          once = distinct_more ps w pair_key_of refl (λ u h e. ap pair_key_of z) good.once;
        }

    marks_empty : w ≡ 0 → Marks sets (ps ++ (w ∷ [])) lent
    marks_empty z =
        record {
          size = marks.size;
          each = λ u h. ⊎_elim (marks.each u) (λ n. absurd (n.1 z)) (has_more_inv ps w u h);
          only = λ vm page p t. let (u, h, b, q) = marks.only vm page p t in (u, has_more_old ps w u h, b, q);
        }

    module _ (f : NotEmpty w) (g : PairGood pages known sets w) where
      -- a word of the same key has left its mark, and a mark is that of a word of the same key
      marked_same : (u : ℕ) → Has ps u → pair_key_of u ≡ pair_key_of w → holds lent (borrower_of sets w) (page_of w) ≡ true
      marked_same u h e =
          let x = good.each u h in
          let (o, a) = parted pages known sets u known-good x in
          let (o', b) = parted pages known sets w known-good g in
          let q = same_mark pages sets one u w o o' a b x.page x.filled g.filled e in
          rw (← q.0, ← q.1) (marks.each u h)

      pub same_marked : holds lent (borrower_of sets w) (page_of w) ≡ true → (u : ℕ) × Has ps u × (pair_key_of u ≡ pair_key_of w)
      same_marked t =
          let (u, h, m, p) = marks.only (borrower_of sets w) (page_of w) (omega (arith, g.page)) t in
          let x = good.each u h in
          let (o, a) = parted pages known sets u known-good x in
          let (o', b) = parted pages known sets w known-good g in
          (u, h, same_key pages sets one u w o o' a b x.page x.filled g.filled m p)

      good_filled : holds lent (borrower_of sets w) (page_of w) ≡ false → PairsGood pages known sets (ps ++ (w ∷ []))
      good_filled n =
          record {
            each = λ u h. ⊎_elim (good.each u) (λ e. rw e.0 g) (has_more_inv ps w u h);
            once = distinct_more ps w pair_key_of refl (λ u h e. absurd (true≢false (sym (marked_same u h e) ∙ n))) good.once;
          }

      marks_filled : Marks sets (ps ++ (w ∷ [])) (add lent (borrower_of sets w) (page_of w))
      marks_filled =
          let p : page_of w < PAGES = omega (arith, g.page) in
          let (o, a) = parted pages known sets w known-good g in
          let l : (borrower_of sets w + 1) * SET_WORDS ≤ length lent = omega (arith, a.borrower, marks.size) in
          record {
            size = length-add lent (borrower_of sets w) (page_of w) ∙ marks.size;
            each = λ u h.
                ⊎_elim
                (λ old. holds_add_keep lent (borrower_of sets w) (page_of w) p (borrower_of sets u) (page_of u) (omega (arith, (good.each u old).page)) l (marks.each u old))
                (λ e. rw e.0 (holds_add_same lent (borrower_of sets w) (page_of w) p l))
                (has_more_inv ps w u h);
            only = λ vm page q t.
                ⊎_elim
                (λ e. (w, has_more_new ps w f, e.0, e.1))
                (λ t'. let (u, h, b, r) = marks.only vm page q t' in (u, has_more_old ps w u h, b, r))
                (holds_add_inv lent (borrower_of sets w) (page_of w) p vm page q t);
          }

  -- ---- a turn of the loop
  pub mark_next : (pairs lent lent' : List ℕ) (i : ℕ) (t : Bool) → Marking pages known sets pairs lent i → i < length pairs → Marked pages known sets (get_or pairs i 0) lent lent' t → t ≡ true → Marking pages known sets pairs lent' (i + 1)
  mark_next pairs lent lent' i t r h m e = ⊎_elim empty filled (equal w 0)
    where
      w : ℕ
      w = get_or pairs i 0

      empty : w ≡ 0 → Marking pages known sets pairs lent' (i + 1)
      empty z =
          record {
            place = omega arith;
            good = rw (take_more pairs i h) (good_empty (take i pairs) lent w r.good r.marks z);
            marks = rw (take_more pairs i h, m.empty z) (marks_empty (take i pairs) lent w r.good r.marks z);
          }

      filled : NotEmpty w → Marking pages known sets pairs lent' (i + 1)
      filled f =
          let (g, n) = m.exact.sound e f in
          record {
            place = omega arith;
            good = rw (take_more pairs i h) (good_filled (take i pairs) lent w r.good r.marks f g n);
            marks = rw (take_more pairs i h, m.filled e f) (marks_filled (take i pairs) lent w r.good r.marks f g);
          }

  -- good pairs pass: a mark that is there already is that of an earlier word of the same key
  good_passes : (pairs lent : List ℕ) (i : ℕ) → Marking pages known sets pairs lent i → i < length pairs → PairsGood pages known sets pairs →
      NotEmpty (get_or pairs i 0) → PairGood pages known sets (get_or pairs i 0) × (holds lent (borrower_of sets (get_or pairs i 0)) (page_of (get_or pairs i 0)) ≡ false)
  unfolding Distinct
  good_passes pairs lent i r h good f = (pair, ⊎_elim (λ t. absurd (twice t)) (λ n. n) (cases (holds lent (borrower_of sets w) (page_of w))))
    where
      w : ℕ
      w = get_or pairs i 0

      pair : PairGood pages known sets w
      pair = good.each w (record { spot = i; within = h; holds = refl; filled = f })

      twice : holds lent (borrower_of sets w) (page_of w) ≡ true → ⊥
      twice t =
          let (u, a, e) = same_marked (take i pairs) lent w r.good r.marks f pair t in
          let (k, l, q) = has_take pairs i u r.place a in
          let z = good.once k i l h (rw q e) in
          omega (arith, pair.filled)

  pub mark_stop : (pairs lent lent' : List ℕ) (i : ℕ) (t : Bool) → Marking pages known sets pairs lent i → i < length pairs → Marked pages known sets (get_or pairs i 0) lent lent' t → t ≡ false → PairsJudged pages known sets pairs lent' false
  mark_stop pairs lent lent' i t r h m e =
      record { exact = says_no (λ good. refutes m.exact e (good_passes pairs lent i r h good)); lends = λ q. absurd (true≢false (sym q)) }

  -- ---- at the end
  -- a VM that does not own the page has its mark where it is an end of a pair on it
  module _ (pairs lent : List ℕ) (good : PairsGood pages known sets pairs) (marks : Marks sets pairs lent) (vm page : ℕ) (p : page < pages) where
    mark_shared : holds lent vm page ≡ true → shares pairs vm page ≡ true
    unfolding shares
    mark_shared t =
        let (w, h, b, q) = marks.only vm page (omega arith) t in
        let (o, a) = parted pages known sets w known-good (good.each w h) in
        let e = (decides_or (decides_equal (left_of w) vm) (decides_equal (right_of w) vm)).complete (rw b at (is_end_lem sets w o a)) in
        has_any (λ w. joins vm w && on_page page w) pairs w h (rw (eq-eqb (filled_of w) 1 (good.each w h).filled, e, eq-eqb (page_of w) page q))

    -- the VM is not the owner's end, so it is the borrower's
    end_marked : (w owner : ℕ) → Parted sets w owner → Has pairs w → page_of w ≡ page → owns sets vm page ≡ false → (left_of w ≡ vm) ⊎ (right_of w ≡ vm) → holds lent vm page ≡ true
    end_marked w owner a h e n end =
        ⊎_elim
        (λ x. let t : owns sets vm page ≡ true = rw (← x, ← e) a.owned in absurd (true≢false (sym t ∙ n)))
        (λ x. rw (← x, ← e) (marks.each w h))
        (end_is sets w owner a vm end)

    shared_mark : owns sets vm page ≡ false → shares pairs vm page ≡ true → holds lent vm page ≡ true
    unfolding shares
    shared_mark n t =
        let (w, h, s) = any_true (λ w. joins vm w && on_page page w) pairs refl t in
        let (j, q) = both (joins vm w) (on_page page w) s in
        let (o, a) = parted pages known sets w known-good (good.each w h) in
        let end = (decides_or (decides_equal (left_of w) vm) (decides_equal (right_of w) vm)).sound (both (is_filled w) (eqb (left_of w) vm || eqb (right_of w) vm) j).1 in
        end_marked w o a h (eqb-true (page_of w) page (both (is_filled w) (eqb (page_of w) page) q).1) n end

  pub lends : (pairs lent : List ℕ) → PairsGood pages known sets pairs → Marks sets pairs lent → Lends pages sets pairs lent
  lends pairs lent good marks =
      record {
        size = marks.size;
        shared = λ vm page p n. same_answer (mark_shared pairs lent good marks vm page p) (shared_mark pairs lent good marks vm page p n);
      }

  pub mark_end : (pairs lent : List ℕ) (i : ℕ) → Marking pages known sets pairs lent i → length pairs ≤ i → PairsJudged pages known sets pairs lent true
  mark_end pairs lent i r h =
      let good : PairsGood pages known sets pairs = rw (take_all i pairs h) at r.good in
      let marks : Marks sets pairs lent = rw (take_all i pairs h) at r.marks in
      record { exact = says_yes good; lends = λ _. lends pairs lent good marks }
