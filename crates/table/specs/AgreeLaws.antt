-- Two tables that are equal as maps, in whatever order their words stand: one has room where the other has, and the same
-- edit of both keeps them equal.
use Rattle.std.specs.Prelude.{ℕ, suc, ◌+◌, ◌≤◌, ◌<◌, Bool, false, ◌≡◌, refl, length, get_or, set, Some, None}
use mathlib.Core.List.{List, [], ◌∷◌}
use Rattle.std.proofs.Common.{sym, ap, ◌∙◌, inl}
use Rattle.std.proofs.Math.Logic.{⊎_elim}
use native.Mathlib.Omega.{arith}
use Rattle.std.proofs.Math.ListN.{length-set}
use borrow.Author.Tests.{eq-eqb, ne_eqb}
use Rattle.numbers.specs.CaseLaws.{cases, equal}
use Rattle.table.specs.Scan.{cleared, wipe}
use Rattle.table.specs.ScanLaws.{count_most, has_wipe_inv, has_wipe_keep}
use Rattle.table.specs.Table.{is_empty, free_entries, Has, find, lookup, place, put, Distinct}
use Rattle.table.specs.TableLaws.{free_set, has_set_keep, has_lookup, lookup_has, lookup_nothing, place_room, room_place, lookup_put_same, lookup_put_other, distinct_wipe}

-- ---- words of a list that begins with w
has_here : (w : ℕ) (ws : List ℕ) → (w ≡ 0 → ⊥) → Has (w ∷ ws) w
has_here w ws n = record { spot = 0; within = omega arith; holds = refl; filled = n }

has_later : (w : ℕ) (ws : List ℕ) (u : ℕ) → Has ws u → Has (w ∷ ws) u
has_later w ws u r = record { spot = suc r.spot; within = omega arith; holds = r.holds; filled = r.filled }

module _ (key_of : ℕ → ℕ) where
  -- every word that stands in the table has a key above 0
  abbrev pub Keyed : List ℕ → Type 0
  Keyed ws = (w : ℕ) → Has ws w → 0 < key_of w

  -- equal as maps
  abbrev pub Agree : List ℕ → List ℕ → Type 0
  Agree ws vs = (k : ℕ) → 0 < k → lookup key_of ws k ≡ lookup key_of vs k

  -- ---- room
  -- where no key stands twice, no later word has the first one's
  later_differs : (w : ℕ) (ws : List ℕ) (u : ℕ) → Distinct key_of (w ∷ ws) → Has ws u → 0 < key_of u → key_of u ≡ key_of w → ⊥
  unfolding Distinct
  later_differs w ws u d r o e =
      let same : key_of w ≡ key_of (get_or ws r.spot 0) = rw r.holds (sym e) in
      let z : key_of u ≡ 0 = rw r.holds at (d 0 (suc r.spot) (omega arith) (omega arith) same) in
      omega arith

  distinct_later : (w : ℕ) (ws : List ℕ) → Distinct key_of (w ∷ ws) → Distinct key_of ws
  unfolding Distinct
  distinct_later w ws d i j l h = d (suc i) (suc j) (omega arith) (omega arith)

  -- where the words of one table all stand in another, the other has no fewer of them
  abbrev Fewer : List ℕ → List ℕ → Type 0
  Fewer ws vs = ((w : ℕ) → Has ws w → Has vs w) → length ws + free_entries vs ≤ length vs + free_entries ws

  -- a first word that is none changes nothing; another has its place in the other table, and the later ones have others
  first_empty : (w : ℕ) (ws vs : List ℕ) → w ≡ 0 → Fewer ws vs → Fewer (w ∷ ws) vs
  unfolding free_entries
  first_empty w ws vs e ih part = rw (eq-eqb w 0 e) (omega (arith, ih (λ u r. part u (has_later w ws u r))))

  first_word : (w : ℕ) (ws vs : List ℕ) → (w ≡ 0 → ⊥) → Keyed (w ∷ ws) → Distinct key_of (w ∷ ws) → ((i : ℕ) → Fewer ws (set vs i 0)) → Fewer (w ∷ ws) vs
  unfolding free_entries
  first_word w ws vs n k d ih part =
      let s = part w (has_here w ws n) in
      let taken = rw (s.holds, ne_eqb w 0 n) at (free_set vs s.spot 0 s.within) in
      rw (ne_eqb w 0 n) (omega (arith, ih s.spot rest, length-set vs s.spot 0, taken))
    where
      rest : (u : ℕ) → Has ws u → Has (set vs (part w (has_here w ws n)).spot 0) u
      rest u r =
          let s = part w (has_here w ws n) in
          let later = has_later w ws u r in
          has_set_keep key_of vs (key_of w) s.spot 0 u (inl (ap key_of s.holds)) (part u later) (later_differs w ws u d r (k u later))

  -- so it is for any table with no key twice
  pub fewer_words : (ws vs : List ℕ) → Keyed ws → Distinct key_of ws → ((w : ℕ) → Has ws w → Has vs w) → length ws + free_entries vs ≤ length vs + free_entries ws
  unfolding free_entries
  fewer_words [] vs k d part = omega (arith, count_most is_empty vs)
  fewer_words (w ∷ ws) vs k d part =
      let ih : (us : List ℕ) → Fewer ws us = λ us. fewer_words ws us (λ u r. k u (has_later w ws u r)) (distinct_later w ws d) in
      ⊎_elim (λ e. first_empty w ws vs e (ih vs) part) (λ n. first_word w ws vs n k d (λ i. ih (set vs i 0)) part) (equal w 0)

  -- a word of the second table stands in the first
  pub agree_has : (ws vs : List ℕ) (w : ℕ) → Distinct key_of vs → Agree ws vs → Has vs w → 0 < key_of w → Has ws w
  agree_has ws vs w d same r o =
      let e = same (key_of w) o ∙ has_lookup key_of vs w d r o in
      rw e at (lookup_has key_of ws (key_of w) (λ z. r.filled (sym e ∙ z))).0

  -- of two tables of one length, the second has as much room as the first
  pub agree_free : (ws vs : List ℕ) → length vs ≡ length ws → Keyed vs → Distinct key_of vs → Agree ws vs → free_entries ws ≤ free_entries vs
  agree_free ws vs l k d same = omega (arith, fewer_words vs ws k d (λ w r. agree_has ws vs w d same r (k w r)))

  -- ---- where the empty word has key 0
  module _ (empty : key_of 0 ≡ 0) where
    -- a key that the second lacks the first lacks
    pub agree_none : (ws vs : List ℕ) (k : ℕ) → 0 < k → Agree ws vs → find key_of vs k ≡ None → find key_of ws k ≡ None
    unfolding lookup
    agree_none ws vs k o same e = lookup_nothing key_of empty ws k o (same k o ∙ rw e)

    -- the second has a place for a key where the first has one
    pub agree_place : (ws vs : List ℕ) (k i : ℕ) → 0 < k → length vs ≡ length ws → Keyed vs → Distinct key_of vs → Agree ws vs → place key_of ws k ≡ Some i → (j : ℕ) × (place key_of vs k ≡ Some j)
    agree_place ws vs k i o l keys d same p =
        place_room key_of vs k
        (λ e. let room = room_place key_of ws k i p (agree_none ws vs k o same e) in omega (arith, agree_free ws vs l keys d same))

    -- ---- the same edit of both
    pub agree_put : (ws vs : List ℕ) (k w i j : ℕ) → key_of w ≡ k → place key_of ws k ≡ Some i → place key_of vs k ≡ Some j → Agree ws vs → Agree (put key_of ws k w) (put key_of vs k w)
    agree_put ws vs k w i j e p q same other o =
        ⊎_elim (λ s. rw (← s, lookup_put_same key_of ws k w i e p, lookup_put_same key_of vs k w j e q))
        (λ n. rw (lookup_put_other key_of empty ws k w other e o n, lookup_put_other key_of empty vs k w other e o n) (same other o))
        (equal k other)

    -- in a table with no key twice a wipe takes a key's word or leaves it
    lookup_word : (ws : List ℕ) (k w : ℕ) → 0 < k → Distinct key_of ws → Has ws w → key_of w ≡ k → lookup key_of ws k ≡ w
    lookup_word ws k w o d r e = rw e at (has_lookup key_of ws w d r (rw e o))

    pub lookup_wipe : (p : ℕ → Bool) (ws : List ℕ) (k : ℕ) → 0 < k → Distinct key_of ws → lookup key_of (wipe p ws) k ≡ cleared p (lookup key_of ws k)
    lookup_wipe p ws k o d = ⊎_elim none some (equal (lookup key_of (wipe p ws) k) 0)
      where
        some : (lookup key_of (wipe p ws) k ≡ 0 → ⊥) → lookup key_of (wipe p ws) k ≡ cleared p (lookup key_of ws k)
        some n =
            let (r, e) = lookup_has key_of (wipe p ws) k n in
            let (s, f) = has_wipe_inv p ws _ r in
            rw (lookup_word ws k _ o d s e, f)

        none : lookup key_of (wipe p ws) k ≡ 0 → lookup key_of (wipe p ws) k ≡ cleared p (lookup key_of ws k)
        none z = ⊎_elim (λ t. rw t z) (λ f. rw f (⊎_elim (λ y. z ∙ sym y) (stays f) (equal (lookup key_of ws k) 0))) (cases (p (lookup key_of ws k)))
          where
            stays : p (lookup key_of ws k) ≡ false → (lookup key_of ws k ≡ 0 → ⊥) → lookup key_of (wipe p ws) k ≡ lookup key_of ws k
            stays f n = let (r, e) = lookup_has key_of ws k n in lookup_word (wipe p ws) k _ o (distinct_wipe key_of empty p ws d) (has_wipe_keep p ws _ r f) e

    pub agree_wipe : (p : ℕ → Bool) (ws vs : List ℕ) → Distinct key_of ws → Distinct key_of vs → Agree ws vs → Agree (wipe p ws) (wipe p vs)
    agree_wipe p ws vs d d' same k o = rw (lookup_wipe p ws k o d, lookup_wipe p vs k o d', same k o)
