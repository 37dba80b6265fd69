-- What a search tells, and what tells a search.
use Rattle.std.specs.Prelude.{ℕ, zero, suc, ◌+◌, ◌≤◌, ◌<◌, Bool, true, false, List, [], ◌∷◌, map, ◌≡◌, refl, length, get_or, set, Some, None, count_by}
use Rattle.std.proofs.Common.{true≢false, sym, ap, ◌∙◌, ⊎_elim, arith, ext_get_or}
use Rattle.std.proofs.lemmas.List.{length-map}
use Rattle.std.proofs.lemmas.List.Recursion.{is_count_by}
use Rattle.std.proofs.Math.ListN.{get_or-map}
use Rattle.numbers.specs.CaseLaws.{cases, equal}
use Rattle.std.specs.Prelude.{if◌then◌else◌}
use Rattle.numbers.specs.Decides.{Decides}
use Rattle.table.specs.Scan.{first, first_from, any, count, cleared, wipe, lowest, lowest_from, any_from, any_below}
use Rattle.table.specs.Table.{Has}

pub found_never : (i : ℕ) → Some i ≡ None → ⊥
found_never i e = let z : ◌≡◌ {A = ℕ} 0 1 = cc in omega arith

-- what counting the words of a filter gives
pub count_by_is : (p : ℕ → Bool) (ws : List ℕ) → count p ws ≡ count_by p ws
count_by_is p ws = is_count_by (count p) p refl (λ w rest. ⊎_elim (λ t. rw t (omega arith)) (λ f. rw f) (cases (p w))) ws

-- ---- the first word that passes
-- i is the first place whose word passes
pub record IsFirst (p : ℕ → Bool) (ws : List ℕ) (i : ℕ) : Type 0 where
  pub within : i < length ws
  pub passes : p (get_or ws i 0) ≡ true
  pub before : (k : ℕ) → k < i → p (get_or ws k 0) ≡ false

module _ (p : ℕ → Bool) where
  -- each law first for the words from o on
  from_at : (o : ℕ) (ws : List ℕ) (i : ℕ) → first_from p o ws ≡ Some i → (j : ℕ) × (i ≡ o + j) × IsFirst p ws j
  from_at o [] i e = absurd (found_never i (sym e))
  from_at o (w ∷ ws) i e =
      ⊎_elim (λ t. let z : Some o ≡ Some i = rw t at e in let q : o ≡ i = cc in (0, omega arith, record { within = omega arith; passes = t; before = λ k h. absurd (omega arith) }))
      (λ f. let (j, s, r) = from_at (suc o) ws i (rw f at e) in (suc j, omega arith, record { within = omega arith; passes = r.passes; before = earlier j f r.before }))
      (cases (p w))
    where
      earlier : (j : ℕ) → p w ≡ false → ((k : ℕ) → k < j → p (get_or ws k 0) ≡ false) → (k : ℕ) → k < suc j → p (get_or (w ∷ ws) k 0) ≡ false
      earlier j f b zero h = f
      earlier j f b (suc k) h = b k (omega arith)

  pub first_at : (ws : List ℕ) (i : ℕ) → first p ws ≡ Some i → IsFirst p ws i
  first_at ws i e = let (j, s, r) = from_at 0 ws i e in let z : i ≡ j = omega arith in rw z r

  from_none : (o : ℕ) (ws : List ℕ) → first_from p o ws ≡ None → (k : ℕ) → k < length ws → p (get_or ws k 0) ≡ false
  from_none o [] e k h = absurd (omega arith)
  from_none o (w ∷ ws) e zero h = ⊎_elim (λ t. absurd (found_never o (rw t at e))) (λ f. f) (cases (p w))
  from_none o (w ∷ ws) e (suc k) h =
      ⊎_elim (λ t. absurd (found_never o (rw t at e))) (λ f. from_none (suc o) ws (rw f at e) k (omega arith)) (cases (p w))

  pub first_none : (ws : List ℕ) → first p ws ≡ None → (k : ℕ) → k < length ws → p (get_or ws k 0) ≡ false
  first_none ws e = from_none 0 ws e

  from_is : (o : ℕ) (ws : List ℕ) (i : ℕ) → IsFirst p ws i → first_from p o ws ≡ Some (o + i)
  from_is o [] i r = absurd (omega arith)
  from_is o (w ∷ ws) zero r = rw r.passes (ap Some (omega arith))
  from_is o (w ∷ ws) (suc i) r =
      rw (r.before 0 (omega arith), from_is (suc o) ws i (record { within = omega arith; passes = r.passes; before = λ k h. r.before (suc k) (omega arith) })) (ap Some (omega arith))

  pub first_is : (ws : List ℕ) (i : ℕ) → IsFirst p ws i → first p ws ≡ Some i
  first_is ws i r = from_is 0 ws i r ∙ ap Some (omega arith)

  from_lacks : (o : ℕ) (ws : List ℕ) → ((k : ℕ) → k < length ws → p (get_or ws k 0) ≡ false) → first_from p o ws ≡ None
  from_lacks o [] h = refl
  from_lacks o (w ∷ ws) h = rw (h 0 (omega arith)) (from_lacks (suc o) ws (λ k l. h (suc k) (omega arith)))

  pub first_lacks : (ws : List ℕ) → ((k : ℕ) → k < length ws → p (get_or ws k 0) ≡ false) → first p ws ≡ None
  first_lacks ws h = from_lacks 0 ws h

  -- a store that neither brings nor takes a word that passes changes no search
  pub first_set : (o : ℕ) (ws : List ℕ) (i w : ℕ) → p w ≡ false → p (get_or ws i 0) ≡ false → first_from p o (set ws i w) ≡ first_from p o ws
  first_set o [] i w h g = refl
  first_set o (x ∷ ws) zero w h g = rw (h, g)
  first_set o (x ∷ ws) (suc i) w h g = ⊎_elim (λ t. rw t) (λ f. rw f (first_set (suc o) ws i w h g)) (cases (p x))

  -- nor does an edit of every word that changes no word's passing
  pub first_map : (f : ℕ → ℕ) → ((w : ℕ) → p (f w) ≡ p w) → (o : ℕ) (ws : List ℕ) → first_from p o (map f ws) ≡ first_from p o ws
  first_map f h o [] = refl
  first_map f h o (x ∷ ws) = rw (h x, first_map f h (suc o) ws)

-- ---- whether a word passes
module _ (p : ℕ → Bool) where
  pub any_here : (ws : List ℕ) (i : ℕ) → i < length ws → p (get_or ws i 0) ≡ true → any p ws ≡ true
  any_here [] i h e = absurd (omega arith)
  any_here (w ∷ ws) zero h e = rw e
  any_here (w ∷ ws) (suc i) h e = ⊎_elim (λ t. rw t) (λ f. rw f (any_here ws i (omega arith) e)) (cases (p w))

  pub any_at : (ws : List ℕ) → any p ws ≡ true → (i : ℕ) × (i < length ws) × (p (get_or ws i 0) ≡ true)
  any_at [] e = absurd (true≢false (sym e))
  any_at (w ∷ ws) e = ⊎_elim (λ t. (0, omega arith, t)) (λ f. let (i, h, t) = any_at ws (rw f at e) in (suc i, omega arith, t)) (cases (p w))

  pub has_any : (ws : List ℕ) (w : ℕ) → Has ws w → p w ≡ true → any p ws ≡ true
  has_any ws w r t = any_here ws r.spot r.within (rw r.holds t)

  pub any_false : (ws : List ℕ) (w : ℕ) → any p ws ≡ false → Has ws w → p w ≡ false
  any_false ws w e r = ⊎_elim (λ t. absurd (true≢false (sym (has_any ws w r t) ∙ e))) (λ f. f) (cases (p w))

  pub any_true : (ws : List ℕ) → p 0 ≡ false → any p ws ≡ true → (w : ℕ) × Has ws w × (p w ≡ true)
  any_true ws o e =
      let (i, h, t) = any_at ws e in
      (get_or ws i 0, record { spot = i; within = h; holds = refl; filled = λ q. true≢false (sym t ∙ rw q o) }, t)

-- ---- whether a number below n passes, and the lowest that does
module _ (p : ℕ → Bool) where
  any_from_here : (i n k : ℕ) → i ≤ k → k < i + n → p k ≡ true → any_from p i n ≡ true
  any_from_here i zero k l h e = absurd (omega arith)
  any_from_here i (suc n) k l h e =
      ⊎_elim (λ t. rw t) (λ f. rw f (⊎_elim (λ q. absurd (true≢false (sym e ∙ rw q f))) (λ q. any_from_here (suc i) n k (omega arith) (omega arith) e) (equal k i))) (cases (p i))

  any_from_at : (i n : ℕ) → any_from p i n ≡ true → (k : ℕ) × (k < i + n) × (p k ≡ true)
  any_from_at i zero e = absurd (true≢false (sym e))
  any_from_at i (suc n) e = ⊎_elim (λ t. (i, omega arith, t)) (λ f. let (k, h, t) = any_from_at (suc i) n (rw f at e) in (k, omega arith, t)) (cases (p i))

  pub below_any : (n k : ℕ) → k < n → p k ≡ true → any_below p n ≡ true
  below_any n k h t = any_from_here 0 n k (omega arith) (omega arith) t

  pub any_below_false : (n k : ℕ) → any_below p n ≡ false → k < n → p k ≡ false
  any_below_false n k e h = ⊎_elim (λ t. absurd (true≢false (sym (below_any n k h t) ∙ e))) (λ f. f) (cases (p k))

  pub any_below_true : (n : ℕ) → any_below p n ≡ true → (k : ℕ) × (k < n) × (p k ≡ true)
  any_below_true n e = let (k, h, t) = any_from_at 0 n e in (k, omega arith, t)

  record FromLowest (i n r : ℕ) : Type 0 where
    above : i ≤ r
    within : r ≤ i + n
    passes : r < i + n → p r ≡ true
    before : (k : ℕ) → i ≤ k → k < r → p k ≡ false

  from_lowest : (i n : ℕ) → FromLowest i n (lowest_from p i n)
  from_lowest i zero = record { above = omega arith; within = omega arith; passes = λ h. absurd (omega arith); before = λ k l h. absurd (omega arith) }
  from_lowest i (suc n) = ⊎_elim here (there (from_lowest (suc i) n)) (cases (p i))
    where
      here : p i ≡ true → FromLowest i (suc n) (lowest_from p i (suc n))
      here t = rw t (record { above = omega arith; within = omega arith; passes = λ h. t; before = λ k l h. absurd (omega arith) })

      there : FromLowest (suc i) n (lowest_from p (suc i) n) → p i ≡ false → FromLowest i (suc n) (lowest_from p i (suc n))
      there r f =
          rw f
          (record {
            above = omega arith;
            within = omega arith;
            passes = λ h. r.passes (omega arith);
            before = λ k l h. ⊎_elim (λ q. rw q f) (λ q. r.before k (omega arith) h) (equal k i);
          })

  pub lowest_within : (n : ℕ) → lowest p n ≤ n
  lowest_within n = let r = from_lowest 0 n in omega arith

  pub lowest_found : (n : ℕ) → lowest p n < n → (p (lowest p n) ≡ true) × ((k : ℕ) → k < lowest p n → p k ≡ false)
  lowest_found n h = let r = from_lowest 0 n in (r.passes (omega arith), λ k l. r.before k (omega arith) l)

  pub lowest_none : (n : ℕ) → n ≤ lowest p n → (k : ℕ) → k < n → p k ≡ false
  lowest_none n e k h = (from_lowest 0 n).before k (omega arith) (omega arith)

-- ---- searches as exact tests
-- some word of a table passes, where an empty one does not
pub some_word : (p : ℕ → Bool) (P : ℕ → Type 0) (ws : List ℕ) → p 0 ≡ false → ((w : ℕ) → Has ws w → Decides (p w) (P w)) → Decides (any p ws) ((w : ℕ) × Has ws w × P w)
some_word p P ws empty d =
    record { sound = λ t. let (w, h, e) = any_true p ws empty t in (w, h, (d w h).sound e); complete = λ r. has_any p ws r.0 r.1 ((d r.0 r.1).complete r.2) }

pub some_below : (p : ℕ → Bool) (P : ℕ → Type 0) (n : ℕ) → ((k : ℕ) → k < n → Decides (p k) (P k)) → Decides (any_below p n) ((k : ℕ) × (k < n) × P k)
some_below p P n d =
    record { sound = λ t. let (k, h, e) = any_below_true p n t in (k, h, (d k h).sound e); complete = λ r. below_any p n r.0 r.1 ((d r.0 r.1).complete r.2) }

-- ---- the words that pass, emptied
module _ (p : ℕ → Bool) where
  -- the empty word stays empty, whether it passes or not
  pub cleared_empty : cleared p 0 ≡ 0
  cleared_empty = ⊎_elim (λ t. rw t) (λ f. rw f) (cases (p 0))

  pub length-wipe : (ws : List ℕ) → length (wipe p ws) ≡ length ws
  length-wipe ws = length-map ws (cleared p)

  pub wipe_at : (ws : List ℕ) (i : ℕ) → get_or (wipe p ws) i 0 ≡ cleared p (get_or ws i 0)
  wipe_at ws i = ap (get_or (wipe p ws) i) (sym cleared_empty) ∙ get_or-map (cleared p) ws i 0

  pub has_wipe_inv : (ws : List ℕ) (w : ℕ) → Has (wipe p ws) w → Has ws w × (p w ≡ false)
  has_wipe_inv ws w r = ⊎_elim gone stays (cases (p (get_or ws r.spot 0)))
    where
      e : cleared p (get_or ws r.spot 0) ≡ w
      e = sym (wipe_at ws r.spot) ∙ r.holds

      gone : p (get_or ws r.spot 0) ≡ true → Has ws w × (p w ≡ false)
      gone t = absurd (r.filled (sym e ∙ rw t))

      stays : p (get_or ws r.spot 0) ≡ false → Has ws w × (p w ≡ false)
      stays f =
          let z : get_or ws r.spot 0 ≡ w = rw f at e in
          (record { spot = r.spot; within = rw length-wipe at r.within; holds = z; filled = r.filled }, rw z at f)

  pub has_wipe_keep : (ws : List ℕ) (w : ℕ) → Has ws w → p w ≡ false → Has (wipe p ws) w
  has_wipe_keep ws w r f =
      record { spot = r.spot; within = rw length-wipe r.within; holds = wipe_at ws r.spot ∙ rw (r.holds, f); filled = r.filled }

  pub wipe_none : ((w : ℕ) → p w ≡ false) → (ws : List ℕ) → wipe p ws ≡ ws
  wipe_none None-passes [] = refl
  wipe_none None-passes (w ∷ ws) = rw (None-passes w, wipe_none None-passes ws)

module _ (p q : ℕ → Bool) where
  -- two tests that say the same of every word that stands in the list
  pub wipe_same : (ws : List ℕ) → ((w : ℕ) → Has ws w → p w ≡ q w) → wipe p ws ≡ wipe q ws
  wipe_same ws same =
      ext_get_or 0 (wipe p ws) (wipe q ws) (length-wipe p ws ∙ sym (length-wipe q ws))
      (λ i h. wipe_at p ws i ∙ at i (omega (arith, length-wipe p ws)) ∙ sym (wipe_at q ws i))
    where
      at : (i : ℕ) → i < length ws → cleared p (get_or ws i 0) ≡ cleared q (get_or ws i 0)
      at i h =
          ⊎_elim (λ z. rw z (cleared_empty p ∙ sym (cleared_empty q))) (λ n. rw (same (get_or ws i 0) (record { spot = i; within = h; holds = refl; filled = n })))
          (equal (get_or ws i 0) 0)

  -- one test after the other
  cleared_twice : (w : ℕ) → cleared q (cleared p w) ≡ cleared (λ u. if p u then true else q u) w
  cleared_twice w = ⊎_elim (λ t. rw t (cleared_empty q)) (λ f. rw f) (cases (p w))

  pub wipe_twice : (ws : List ℕ) → wipe q (wipe p ws) ≡ wipe (λ w. if p w then true else q w) ws
  wipe_twice [] = refl
  wipe_twice (w ∷ ws) = rw (cleared_twice w, wipe_twice ws)

-- ---- how many words pass
pub at_most_one : (t : Bool) → (if t then 1 else 0) ≤ 1
at_most_one true = omega arith
at_most_one false = omega arith

module _ (p : ℕ → Bool) where
  count_cons : (w : ℕ) (ws : List ℕ) → count p (w ∷ ws) ≡ count p ws + (if p w then 1 else 0)
  count_cons w ws = ⊎_elim (λ t. rw t) (λ f. rw f (omega arith)) (cases (p w))

  pub count_most : (ws : List ℕ) → count p ws ≤ length ws
  count_most [] = omega arith
  count_most (w ∷ ws) = omega (arith, count_most ws, count_cons w ws, at_most_one (p w))

  -- a store changes the count by the word that goes and the word that comes
  pub count_set : (ws : List ℕ) (i w : ℕ) → i < length ws → count p (set ws i w) + (if p (get_or ws i 0) then 1 else 0) ≡ count p ws + (if p w then 1 else 0)
  count_set [] i w h = absurd (omega arith)
  count_set (x ∷ ws) zero w h = omega (arith, count_cons w ws, count_cons x ws)
  count_set (x ∷ ws) (suc i) w h = omega (arith, count_set ws i w (omega arith), count_cons x (set ws i w), count_cons x ws)

  count_from : (o : ℕ) (ws : List ℕ) → 0 < count p ws → (i : ℕ) × (first_from p o ws ≡ Some i)
  count_from o [] h = absurd (omega arith)
  count_from o (w ∷ ws) h = ⊎_elim (λ t. (o, rw t)) (λ f. let (i, e) = count_from (suc o) ws (rw f at h) in (i, rw f e)) (cases (p w))

  pub count_found : (ws : List ℕ) → 0 < count p ws → (i : ℕ) × (first p ws ≡ Some i)
  count_found ws h = count_from 0 ws h

  pub found_count : (ws : List ℕ) (i : ℕ) → i < length ws → p (get_or ws i 0) ≡ true → 0 < count p ws
  found_count [] i h t = absurd (omega arith)
  found_count (w ∷ ws) zero h t = rw t (omega arith)
  found_count (w ∷ ws) (suc i) h t = omega (arith, count_cons w ws, found_count ws i (omega arith) t)

  -- emptying more words leaves no fewer that pass, where the empty word passes
  pub count_wipe : (q : ℕ → Bool) (ws : List ℕ) → p 0 ≡ true → count p ws ≤ count p (wipe q ws)
  count_wipe q [] e = omega arith
  count_wipe q (w ∷ ws) e = omega (arith, count_wipe q ws e, count_cons w ws, count_cons (cleared q w) (wipe q ws), more)
    where
      more : (if p w then 1 else 0) ≤ (if p (cleared q w) then 1 else 0)
      more = ⊎_elim (λ t. let z : p (cleared q w) ≡ true = rw t e in rw z (at_most_one (p w))) (λ f. rw f (omega arith)) (cases (q w))
