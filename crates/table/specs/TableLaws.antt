-- Laws of tables, for any way of reading a word's key, any capacity and any place.
use Rattle.std.specs.Prelude.{ℕ, ◌+◌, ◌≤◌, ◌<◌, Bool, true, List, ◌≡◌, ◌⊎◌, ltb, length, get_or, set, Option, Some, None}
use Rattle.std.proofs.Math.Bool.{false, true≢false}
use Rattle.std.proofs.Math.Path.{refl, sym}
use Rattle.std.proofs.Common.{◌∙◌, arith, length-set, get_or-set_same, get_or-set_other}
use Rattle.std.proofs.Math.Logic.{inl, inr, ⊎_elim}
use borrow.Author.Tests.{eq-eqb, ne_eqb, eqb-true, eqb-false, ltb-true, ltb-false}
use Rattle.numbers.specs.CaseLaws.{cases, equal}
use Rattle.std.specs.Prelude.{if◌then◌else◌}
use Rattle.table.specs.Scan.{first, cleared, wipe}
use Rattle.table.specs.ScanLaws.{IsFirst, first_at, first_none, first_is, first_lacks, first_set, first_map, length-wipe, wipe_at, count_set, count_found, found_count, count_wipe, at_most_one}
use Rattle.table.specs.Table.{is_empty, lowest_free, free_entries, or_else, is_found, set_at, word_at, Has, has_key, find, lookup, place, put, erase, Distinct}

-- ---- a store at any place
pub has_set_new : (ws : List ℕ) (i w : ℕ) → i < length ws → (w ≡ 0 → ⊥) → Has (set ws i w) w
has_set_new ws i w h n = record { spot = i; within = rw length-set h; holds = get_or-set_same ws i w 0 h; filled = n }

pub has_set_inv : (ws : List ℕ) (i w u : ℕ) → Has (set ws i w) u → (u ≡ w) ⊎ Has ws u
has_set_inv ws i w u r = ⊎_elim (λ t. inl (new t)) (λ f. inr (old f)) (equal r.spot i)
  where
    h : r.spot < length ws
    h = rw length-set at r.within

    new : r.spot ≡ i → u ≡ w
    new e = sym r.holds ∙ rw e (get_or-set_same ws i w 0 (rw e at h))

    old : (r.spot ≡ i → ⊥) → Has ws u
    old n = record { spot = r.spot; within = h; holds = sym (get_or-set_other ws i r.spot w 0 n) ∙ r.holds; filled = r.filled }

-- ---- what was found
pub found_at : (f : Option ℕ) → is_found f ≡ true → (i : ℕ) × (f ≡ Some i)
found_at (Some i) t = (i, refl)
found_at None t = absurd (true≢false (sym t))

-- ---- empty places
pub free_at : (ws : List ℕ) (i : ℕ) → lowest_free ws ≡ Some i → IsFirst is_empty ws i
unfolding lowest_free
free_at ws i e = first_at is_empty ws i e

pub free_place : (ws : List ℕ) → 0 < free_entries ws → (i : ℕ) × (lowest_free ws ≡ Some i)
unfolding lowest_free free_entries
free_place ws h = count_found is_empty ws h

pub place_free : (ws : List ℕ) (i : ℕ) → lowest_free ws ≡ Some i → 0 < free_entries ws
unfolding free_entries
place_free ws i e = let r = free_at ws i e in found_count is_empty ws i r.within r.passes

-- a store takes the place that it fills, and gives back the one that it empties
pub free_set : (ws : List ℕ) (i w : ℕ) → i < length ws → free_entries (set ws i w) + (if is_empty (get_or ws i 0) then 1 else 0) ≡ free_entries ws + (if is_empty w then 1 else 0)
unfolding free_entries
free_set ws i w h = count_set is_empty ws i w h

pub free_wipe : (p : ℕ → Bool) (ws : List ℕ) → free_entries ws ≤ free_entries (wipe p ws)
unfolding free_entries
free_wipe p ws = count_wipe is_empty p ws refl

-- ---- by key
module _ (key_of : ℕ → ℕ) where
  -- ---- find and lookup
  pub find_at : (ws : List ℕ) (k i : ℕ) → find key_of ws k ≡ Some i → IsFirst (has_key key_of k) ws i
  unfolding find
  find_at ws k i e = first_at (has_key key_of k) ws i e

  pub find_none : (ws : List ℕ) (k : ℕ) → find key_of ws k ≡ None → (j : ℕ) → j < length ws → key_of (get_or ws j 0) ≡ k → ⊥
  unfolding find
  find_none ws k e j h = eqb-false (key_of (get_or ws j 0)) k (first_none (has_key key_of k) ws e j h)

  -- what holds for both answers of a search holds of lookup
  pub lookup_case : (ws : List ℕ) (k : ℕ) (P : ℕ → Type 0) → ((i : ℕ) → find key_of ws k ≡ Some i → P (get_or ws i 0)) → (find key_of ws k ≡ None → P 0) → P (lookup key_of ws k)
  unfolding lookup
  lookup_case ws k P at none = go (find key_of ws k) refl
    where
      go : (f : Option ℕ) → find key_of ws k ≡ f → P (word_at ws f)
      go (Some i) e = at i e
      go None e = none e

  lookup_is : (ws : List ℕ) (k i : ℕ) → IsFirst (has_key key_of k) ws i → lookup key_of ws k ≡ get_or ws i 0
  unfolding lookup find
  lookup_is ws k i r = rw (first_is (has_key key_of k) ws i r)

  -- where a search and the words of its key stay, lookup does
  lookup_kept : (ws next : List ℕ) (k : ℕ) → first (has_key key_of k) next ≡ first (has_key key_of k) ws → ((j : ℕ) → has_key key_of k (get_or ws j 0) ≡ true → get_or next j 0 ≡ get_or ws j 0) → lookup key_of next k ≡ lookup key_of ws k
  unfolding lookup find
  lookup_kept ws next k e same = rw e (go (first (has_key key_of k) ws) refl)
    where
      go : (f : Option ℕ) → first (has_key key_of k) ws ≡ f → word_at next f ≡ word_at ws f
      go (Some j) q = same j (first_at (has_key key_of k) ws j q).passes
      go None q = refl

  pub lookup_has : (ws : List ℕ) (k : ℕ) → (lookup key_of ws k ≡ 0 → ⊥) → Has ws (lookup key_of ws k) × (key_of (lookup key_of ws k) ≡ k)
  lookup_has ws k = lookup_case ws k (λ w. (w ≡ 0 → ⊥) → Has ws w × (key_of w ≡ k)) (λ i e n. there i (find_at ws k i e) n) (λ e n. absurd (n refl))
    where
      there : (i : ℕ) → IsFirst (has_key key_of k) ws i → (get_or ws i 0 ≡ 0 → ⊥) → Has ws (get_or ws i 0) × (key_of (get_or ws i 0) ≡ k)
      there i r n = (record { spot = i; within = r.within; holds = refl; filled = n }, eqb-true _ _ r.passes)

  -- ---- places
  -- the word at i is of the key, or the place is empty
  abbrev pub Fits : List ℕ → ℕ → ℕ → Type 0
  Fits ws k i = (key_of (get_or ws i 0) ≡ k) ⊎ (get_or ws i 0 ≡ 0)

  -- no place but i has the key
  abbrev pub Alone : List ℕ → ℕ → ℕ → Type 0
  Alone ws k i = (j : ℕ) → j < length ws → (j ≡ i → ⊥) → key_of (get_or ws j 0) ≡ k → ⊥

  -- a word of the key may be stored at i, however i was chosen
  pub record IsPlace (ws : List ℕ) (k i : ℕ) : Type 0 where
    pub within : i < length ws
    pub fits : Fits ws k i
    pub alone : Alone ws k i

  -- in a table with no key twice, a key that stands at i stands nowhere else
  pub distinct_alone : (ws : List ℕ) (k i : ℕ) → Distinct key_of ws → 0 < k → i < length ws → key_of (get_or ws i 0) ≡ k → Alone ws k i
  unfolding Distinct
  distinct_alone ws k i d o h p j l n q =
      ⊎_elim (λ t. let e : key_of (get_or ws i 0) ≡ 0 = d j i (ltb-true j i t) h (q ∙ sym p) in omega arith)
      (λ f. let e : key_of (get_or ws j 0) ≡ 0 = d i j (omega (arith, ltb-false j i f)) l (p ∙ sym q) in omega arith)
      (cases (ltb j i))

  -- the place that `place` finds is where the key is, or the lowest empty one where the key is nowhere
  pub place_at : (ws : List ℕ) (k i : ℕ) → place key_of ws k ≡ Some i → (find key_of ws k ≡ Some i) ⊎ ((find key_of ws k ≡ None) × (lowest_free ws ≡ Some i))
  unfolding place
  place_at ws k i e = go (find key_of ws k) refl e
    where
      go : (f : Option ℕ) → find key_of ws k ≡ f → or_else f (lowest_free ws) ≡ Some i → (find key_of ws k ≡ Some i) ⊎ ((find key_of ws k ≡ None) × (lowest_free ws ≡ Some i))
      go (Some j) q e' = inl (q ∙ e')
      go None q e' = inr (q, e')

  pub place_none : (ws : List ℕ) (k : ℕ) → place key_of ws k ≡ None → find key_of ws k ≡ None
  unfolding place
  place_none ws k e = go (find key_of ws k) refl e
    where
      go : (f : Option ℕ) → find key_of ws k ≡ f → or_else f (lowest_free ws) ≡ None → find key_of ws k ≡ None
      go (Some j) q e' = q ∙ e'
      go None q e' = q

  pub place_within : (ws : List ℕ) (k i : ℕ) → place key_of ws k ≡ Some i → i < length ws
  place_within ws k i e = ⊎_elim (λ q. (find_at ws k i q).within) (λ q. (free_at ws i q.1).within) (place_at ws k i e)

  pub place_fits : (ws : List ℕ) (k i : ℕ) → place key_of ws k ≡ Some i → Fits ws k i
  place_fits ws k i e = ⊎_elim (λ q. inl (eqb-true _ _ (find_at ws k i q).passes)) (λ q. inr (eqb-true _ _ (free_at ws i q.1).passes)) (place_at ws k i e)

  pub place_is : (ws : List ℕ) (k i : ℕ) → Distinct key_of ws → 0 < k → place key_of ws k ≡ Some i → IsPlace ws k i
  place_is ws k i d o e =
      let h = place_within ws k i e in
      record {
        within = h;
        fits = place_fits ws k i e;
        alone = ⊎_elim (λ q. distinct_alone ws k i d o h (eqb-true _ _ (find_at ws k i q).passes)) (λ q j l n. find_none ws k q.0 j l) (place_at ws k i e);
      }

  -- ---- a store at a place
  -- in its place the new word is the first of its key
  lookup_first : (ws : List ℕ) (k i w : ℕ) → key_of w ≡ k → i < length ws → ((j : ℕ) → j < i → key_of (get_or ws j 0) ≡ k → ⊥) → lookup key_of (set ws i w) k ≡ w
  lookup_first ws k i w e h b =
      lookup_is (set ws i w) k i
      (record {
        within = rw length-set h;
        passes = rw (get_or-set_same ws i w 0 h) (eq-eqb (key_of w) k e);
        before = λ j l. rw (get_or-set_other ws i j w 0 (omega arith)) (ne_eqb (key_of (get_or ws j 0)) k (b j l));
      })
      ∙ get_or-set_same ws i w 0 h

  pub lookup_set_same : (ws : List ℕ) (k i w : ℕ) → key_of w ≡ k → IsPlace ws k i → lookup key_of (set ws i w) k ≡ w
  lookup_set_same ws k i w e r = lookup_first ws k i w e r.within (λ j l. r.alone j (omega arith) (omega arith))

  pub has_set_keep : (ws : List ℕ) (k i w u : ℕ) → Fits ws k i → Has ws u → (key_of u ≡ k → ⊥) → Has (set ws i w) u
  has_set_keep ws k i w u f r n =
      record { spot = r.spot; within = rw length-set r.within; holds = get_or-set_other ws i r.spot w 0 other ∙ r.holds; filled = r.filled }
    where
      other : r.spot ≡ i → ⊥
      other q = let e = rw q at r.holds in ⊎_elim (λ t. n (rw e at t)) (λ t. r.filled (sym e ∙ t)) f

  -- whatever word was replaced, where no other place has the new word's key
  distinct_store : (ws : List ℕ) (i w : ℕ) → ((j : ℕ) → j < length ws → (j ≡ i → ⊥) → key_of (get_or ws j 0) ≡ key_of w → key_of w ≡ 0) → Distinct key_of ws → Distinct key_of (set ws i w)
  unfolding Distinct
  distinct_store ws i w only d a b l h = ⊎_elim first_is_new (λ n. ⊎_elim (second_is_new n) (neither n) (equal b i)) (equal a i)
    where
      goal : Type 0
      goal = key_of (get_or (set ws i w) a 0) ≡ key_of (get_or (set ws i w) b 0) → key_of (get_or (set ws i w) b 0) ≡ 0

      h' : b < length ws
      h' = rw length-set at h

      first_is_new : a ≡ i → goal
      first_is_new q =
          let n : b ≡ i → ⊥ = λ s. omega (arith, h') in
          rw (q, get_or-set_same ws i w 0 (omega (arith, h')), get_or-set_other ws i b w 0 n) (λ s. sym s ∙ only b h' n (sym s))

      second_is_new : (a ≡ i → ⊥) → b ≡ i → goal
      second_is_new n q =
          rw (q, get_or-set_same ws i w 0 (omega (arith, h')), get_or-set_other ws i a w 0 n) (λ s. only a (omega (arith, h')) n s)

      neither : (a ≡ i → ⊥) → (b ≡ i → ⊥) → goal
      neither n m = rw (get_or-set_other ws i a w 0 n, get_or-set_other ws i b w 0 m) (d a b l h')

  pub distinct_set : (ws : List ℕ) (k i w : ℕ) → key_of w ≡ k → Alone ws k i → Distinct key_of ws → Distinct key_of (set ws i w)
  distinct_set ws k i w e only = distinct_store ws i w (λ j h n q. absurd (only j h n (q ∙ e)))

  -- ---- put
  -- what holds of a store at the place, and of a table that stays as it is, holds of put
  pub put_case : (ws : List ℕ) (k w : ℕ) (P : List ℕ → Type 0) → ((i : ℕ) → place key_of ws k ≡ Some i → P (set ws i w)) → P ws → P (put key_of ws k w)
  unfolding put
  put_case ws k w P at full = go (place key_of ws k) refl
    where
      go : (f : Option ℕ) → place key_of ws k ≡ f → P (set_at ws f w)
      go (Some i) e = at i e
      go None e = full

  pub put_at : (ws : List ℕ) (k w i : ℕ) → place key_of ws k ≡ Some i → put key_of ws k w ≡ set ws i w
  unfolding put
  put_at ws k w i e = rw e

  pub length-put : (ws : List ℕ) (k w : ℕ) → length (put key_of ws k w) ≡ length ws
  length-put ws k w = put_case ws k w (λ l. length l ≡ length ws) (λ i e. length-set ws i w) refl

  pub lookup_put_same : (ws : List ℕ) (k w i : ℕ) → key_of w ≡ k → place key_of ws k ≡ Some i → lookup key_of (put key_of ws k w) k ≡ w
  lookup_put_same ws k w i e p =
      let h = place_within ws k i p in
      rw (put_at ws k w i p)
      (lookup_first ws k i w e h
      (λ j l. ⊎_elim (λ q. eqb-false (key_of (get_or ws j 0)) k ((find_at ws k i q).before j l)) (λ q. find_none ws k q.0 j (omega arith)) (place_at ws k i p)))

  pub distinct_put : (ws : List ℕ) (k w : ℕ) → key_of w ≡ k → 0 < k → Distinct key_of ws → Distinct key_of (put key_of ws k w)
  distinct_put ws k w e o d = put_case ws k w (Distinct key_of) (λ i p. distinct_set ws k i w e (place_is ws k i d o p).alone d) d

  pub has_put_new : (ws : List ℕ) (k w i : ℕ) → place key_of ws k ≡ Some i → (w ≡ 0 → ⊥) → Has (put key_of ws k w) w
  has_put_new ws k w i p n = rw (put_at ws k w i p) (has_set_new ws i w (place_within ws k i p) n)

  pub has_put_inv : (ws : List ℕ) (k w u : ℕ) → Has (put key_of ws k w) u → (u ≡ w) ⊎ Has ws u
  has_put_inv ws k w u = put_case ws k w (λ l. Has l u → (u ≡ w) ⊎ Has ws u) (λ i p. has_set_inv ws i w u) inr

  pub has_put_keep : (ws : List ℕ) (k w u : ℕ) → Has ws u → (key_of u ≡ k → ⊥) → Has (put key_of ws k w) u
  has_put_keep ws k w u r n = put_case ws k w (λ l. Has l u) (λ i p. has_set_keep ws k i w u (place_fits ws k i p) r n) r

  -- ---- lookup in a table with no key twice
  pub has_lookup : (ws : List ℕ) (w : ℕ) → Distinct key_of ws → Has ws w → 0 < key_of w → lookup key_of ws (key_of w) ≡ w
  has_lookup ws w d r o =
      let e : key_of (get_or ws r.spot 0) ≡ key_of w = rw r.holds in
      let only = distinct_alone ws (key_of w) r.spot d o r.within e in
      lookup_is ws (key_of w) r.spot
      (record {
        within = r.within;
        passes = eq-eqb _ _ e;
        before = λ j l. ne_eqb (key_of (get_or ws j 0)) (key_of w) (only j (omega arith) (omega arith));
      })
      ∙ r.holds

  -- ---- room
  -- a word has a place exactly where its key is there or a place is empty
  pub place_room : (ws : List ℕ) (k : ℕ) → (find key_of ws k ≡ None → 0 < free_entries ws) → (i : ℕ) × (place key_of ws k ≡ Some i)
  unfolding place
  place_room ws k = go (find key_of ws k)
    where
      go : (f : Option ℕ) → (f ≡ None → 0 < free_entries ws) → (i : ℕ) × (or_else f (lowest_free ws) ≡ Some i)
      go (Some i) h = (i, refl)
      go None h = free_place ws (h refl)

  pub room_place : (ws : List ℕ) (k i : ℕ) → place key_of ws k ≡ Some i → find key_of ws k ≡ None → 0 < free_entries ws
  unfolding place
  room_place ws k i p e = place_free ws i (rw e at p)

  -- a new key takes one empty place
  pub free_put_new : (ws : List ℕ) (k w : ℕ) → find key_of ws k ≡ None → 0 < free_entries ws → (w ≡ 0 → ⊥) → free_entries ws ≡ free_entries (put key_of ws k w) + 1
  unfolding place
  free_put_new ws k w e h n =
      let (i, f) = free_place ws h in
      let r = free_at ws i f in
      let p : place key_of ws k ≡ Some i = rw e f in
      let t = rw (r.passes, ne_eqb w 0 n) at (free_set ws i w r.within) in
      rw (put_at ws k w i p) (omega arith)

  -- and no store takes more
  pub free_put : (ws : List ℕ) (k w : ℕ) → free_entries ws ≤ free_entries (put key_of ws k w) + 1
  free_put ws k w = put_case ws k w (λ l. free_entries ws ≤ free_entries l + 1) (λ i p. omega (arith, free_set ws i w (place_within ws k i p), at_most_one (is_empty (get_or ws i 0)))) (omega arith)

  -- ---- where the empty word has key 0
  module _ (empty : key_of 0 ≡ 0) where
    empty_lacks : (k : ℕ) → 0 < k → has_key key_of k 0 ≡ false
    empty_lacks k o = ne_eqb (key_of 0) k (λ e. omega arith)

    pub lookup_nothing : (ws : List ℕ) (k : ℕ) → 0 < k → lookup key_of ws k ≡ 0 → find key_of ws k ≡ None
    lookup_nothing ws k o =
        lookup_case ws k (λ w. w ≡ 0 → find key_of ws k ≡ None) (λ i e z. absurd (true≢false (sym (find_at ws k i e).passes ∙ rw z (empty_lacks k o)))) (λ e z. e)

    pub lookup_none : (ws : List ℕ) (k w : ℕ) → 0 < k → lookup key_of ws k ≡ 0 → Has ws w → key_of w ≡ k → ⊥
    lookup_none ws k w o e r q = find_none ws k (lookup_nothing ws k o e) r.spot r.within (rw r.holds q)

    pub lookup_set_other : (ws : List ℕ) (k i w other : ℕ) → key_of w ≡ k → Fits ws k i → 0 < other → (k ≡ other → ⊥) → lookup key_of (set ws i w) other ≡ lookup key_of ws other
    lookup_set_other ws k i w other e f o n =
        lookup_kept ws (set ws i w) other (first_set (has_key key_of other) 0 ws i w new old) (λ j t. get_or-set_other ws i j w 0 (λ s. true≢false (sym t ∙ rw s old)))
      where
        new : has_key key_of other w ≡ false
        new = ne_eqb (key_of w) other (λ q. n (sym e ∙ q))

        old : has_key key_of other (get_or ws i 0) ≡ false
        old = ⊎_elim (λ t. ne_eqb (key_of (get_or ws i 0)) other (λ q. n (sym t ∙ q))) (λ t. rw t (empty_lacks other o)) f

    pub lookup_put_other : (ws : List ℕ) (k w other : ℕ) → key_of w ≡ k → 0 < other → (k ≡ other → ⊥) → lookup key_of (put key_of ws k w) other ≡ lookup key_of ws other
    lookup_put_other ws k w other e o n =
        put_case ws k w (λ l. lookup key_of l other ≡ lookup key_of ws other) (λ i p. lookup_set_other ws k i w other e (place_fits ws k i p) o n) refl

    -- ---- wipe and erase
    pub lookup_wipe_same : (p : ℕ → Bool) (ws : List ℕ) (k : ℕ) → 0 < k → ((w : ℕ) → key_of w ≡ k → p w ≡ true) → lookup key_of (wipe p ws) k ≡ 0
    unfolding lookup find
    lookup_wipe_same p ws k o all = rw (first_lacks (has_key key_of k) (wipe p ws) none)
      where
        gone : (w : ℕ) → has_key key_of k (cleared p w) ≡ false
        gone w = ⊎_elim (λ t. rw t (empty_lacks k o)) (λ f. rw f (ne_eqb (key_of w) k (λ q. true≢false (sym (all w q) ∙ f)))) (cases (p w))

        none : (i : ℕ) → i < length (wipe p ws) → has_key key_of k (get_or (wipe p ws) i 0) ≡ false
        none i l = rw (wipe_at p ws i) (gone (get_or ws i 0))

    pub lookup_wipe_other : (p : ℕ → Bool) (ws : List ℕ) (k : ℕ) → 0 < k → ((w : ℕ) → key_of w ≡ k → p w ≡ false) → lookup key_of (wipe p ws) k ≡ lookup key_of ws k
    lookup_wipe_other p ws k o none =
        lookup_kept ws (wipe p ws) k (first_map (has_key key_of k) (cleared p) kept 0 ws) (λ j t. wipe_at p ws j ∙ rw (none (get_or ws j 0) (eqb-true _ _ t)))
      where
        kept : (w : ℕ) → has_key key_of k (cleared p w) ≡ has_key key_of k w
        kept w = ⊎_elim (λ t. rw t (empty_lacks k o ∙ sym (ne_eqb (key_of w) k (λ q. true≢false (sym t ∙ none w q))))) (λ f. rw f) (cases (p w))

    pub lookup_erase_same : (ws : List ℕ) (k : ℕ) → 0 < k → lookup key_of (erase key_of ws k) k ≡ 0
    unfolding erase
    lookup_erase_same ws k o = lookup_wipe_same (has_key key_of k) ws k o (λ w q. eq-eqb (key_of w) k q)

    pub lookup_erase_other : (ws : List ℕ) (k other : ℕ) → 0 < other → (k ≡ other → ⊥) → lookup key_of (erase key_of ws k) other ≡ lookup key_of ws other
    unfolding erase
    lookup_erase_other ws k other o n = lookup_wipe_other (has_key key_of k) ws other o (λ w q. ne_eqb (key_of w) k (λ s. n (sym s ∙ q)))

    -- a place that is emptied, however it was chosen
    pub distinct_empty : (ws : List ℕ) (i : ℕ) → Distinct key_of ws → Distinct key_of (set ws i 0)
    distinct_empty ws i = distinct_store ws i 0 (λ j h n q. empty)

    pub distinct_wipe : (p : ℕ → Bool) (ws : List ℕ) → Distinct key_of ws → Distinct key_of (wipe p ws)
    unfolding Distinct
    distinct_wipe p ws d a b l h = rw (wipe_at p ws a, wipe_at p ws b) (⊎_elim gone stays (cases (p (get_or ws b 0))))
      where
        goal : Type 0
        goal = key_of (cleared p (get_or ws a 0)) ≡ key_of (cleared p (get_or ws b 0)) → key_of (cleared p (get_or ws b 0)) ≡ 0

        gone : p (get_or ws b 0) ≡ true → goal
        gone t = rw t (λ q. empty)

        stays : p (get_or ws b 0) ≡ false → goal
        stays f = rw f (⊎_elim (λ t. rw t (λ q. sym q ∙ empty)) (λ g. rw g (d a b l (rw (length-wipe p ws) at h))) (cases (p (get_or ws a 0))))

    -- a word in place of another takes no place
    pub free_put_same : (ws : List ℕ) (k w i : ℕ) → 0 < k → find key_of ws k ≡ Some i → (w ≡ 0 → ⊥) → free_entries (put key_of ws k w) ≡ free_entries ws
    unfolding place
    free_put_same ws k w i o e n =
        let r = find_at ws k i e in
        let f : is_empty (get_or ws i 0) ≡ false = ne_eqb (get_or ws i 0) 0 (λ z. true≢false (sym r.passes ∙ rw z (empty_lacks k o))) in
        let p : place key_of ws k ≡ Some i = rw e in
        let t = rw (f, ne_eqb w 0 n) at (free_set ws i w r.within) in
        rw (put_at ws k w i p) (omega arith)
