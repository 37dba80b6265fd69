-- What holds at the head of a loop, a record for each shape of loop: how it begins, what a turn keeps, and what it gives where the loop is left.
use Rattle.std.specs.Prelude.{ℕ, suc, ◌+◌, ◌-◌, ◌≤◌, ◌<◌, Bool, true, false, List, [], ◌∷◌, ◌++◌, map, ◌≡◌, refl, length, get_or, set, take, drop, replicate, Some, None}
use Rattle.std.proofs.Common.{append-nil, sym, ap, ◌∙◌, add-one, arith, length-set, drop_of_length-le, drop-cons, take-suc, take_all, length-take-le}
use Rattle.std.proofs.lemmas.List.Edits.{fill_none, fill_more}
use Rattle.std.proofs.lemmas.List.{length-map, get_or_at, set_at}
use Rattle.std.proofs.Math.Seq.{drop-length, append_snoc}
use Rattle.table.specs.Scan.{first, first_from, any, lowest, lowest_from, count, cleared, wipe, repeat, any_from, any_below}

less : (n i : ℕ) → i < n → n - i ≡ suc (n - (i + 1))
less n i h = omega arith

none_left : (n i : ℕ) → n ≤ i → n - i ≡ 0
none_left n i h = omega arith

-- ---- looks for the first word that passes
pub record Seeking (p : ℕ → Bool) (ws : List ℕ) (i : ℕ) : Type 0 where
  pub place : i ≤ length ws
  pub rest : first p ws ≡ first_from p i (drop i ws)

module _ (p : ℕ → Bool) (ws : List ℕ) where
  pub seek_start : Seeking p ws 0
  seek_start = record { place = omega arith; rest = refl }

  pub seek_next : (i : ℕ) → Seeking p ws i → i < length ws → p (get_or ws i 0) ≡ false → Seeking p ws (i + 1)
  seek_next i r h e = record { place = omega arith; rest = r.rest ∙ rw (drop-cons ws i 0 h, e, add-one i) }

  pub seek_found : (i : ℕ) → Seeking p ws i → i < length ws → p (get_or ws i 0) ≡ true → Some i ≡ first p ws
  seek_found i r h e = rw (r.rest, drop-cons ws i 0 h, e)

  pub seek_none : (i : ℕ) → Seeking p ws i → length ws ≤ i → None ≡ first p ws
  seek_none i r h = rw (r.rest, drop_of_length-le ws h)

-- ---- asks whether a word passes
pub record Asking (p : ℕ → Bool) (ws : List ℕ) (i : ℕ) : Type 0 where
  pub place : i ≤ length ws
  pub rest : any p ws ≡ any p (drop i ws)

module _ (p : ℕ → Bool) (ws : List ℕ) where
  pub ask_start : Asking p ws 0
  ask_start = record { place = omega arith; rest = refl }

  pub ask_next : (i : ℕ) → Asking p ws i → i < length ws → p (get_or ws i 0) ≡ false → Asking p ws (i + 1)
  ask_next i r h e = record { place = omega arith; rest = r.rest ∙ rw (drop-cons ws i 0 h, e, add-one i) }

  pub ask_yes : (i : ℕ) → Asking p ws i → i < length ws → p (get_or ws i 0) ≡ true → true ≡ any p ws
  ask_yes i r h e = rw (r.rest, drop-cons ws i 0 h, e)

  pub ask_no : (i : ℕ) → Asking p ws i → length ws ≤ i → false ≡ any p ws
  ask_no i r h = rw (r.rest, drop_of_length-le ws h)

-- ---- looks for the lowest number below n that passes
pub record Rising (p : ℕ → Bool) (n i : ℕ) : Type 0 where
  pub place : i ≤ n
  pub rest : lowest p n ≡ lowest_from p i (n - i)

module _ (p : ℕ → Bool) (n : ℕ) where
  pub rise_start : Rising p n 0
  rise_start = record { place = omega arith; rest = let z : n - 0 ≡ n = omega arith in rw z }

  pub rise_next : (i : ℕ) → Rising p n i → i < n → p i ≡ false → Rising p n (i + 1)
  rise_next i r h e = record { place = omega arith; rest = r.rest ∙ rw (less n i h, e, add-one i) }

  pub rise_found : (i : ℕ) → Rising p n i → i < n → p i ≡ true → i ≡ lowest p n
  rise_found i r h e = rw (r.rest, less n i h, e)

  pub rise_none : (i : ℕ) → Rising p n i → n ≤ i → i ≡ lowest p n
  rise_none i r h = rw (r.rest, none_left n i h)

-- ---- asks whether a number below n passes
pub record Trying (p : ℕ → Bool) (n i : ℕ) : Type 0 where
  pub place : i ≤ n
  pub rest : any_below p n ≡ any_from p i (n - i)

module _ (p : ℕ → Bool) (n : ℕ) where
  pub try_start : Trying p n 0
  try_start = record { place = omega arith; rest = let z : n - 0 ≡ n = omega arith in rw z }

  pub try_next : (i : ℕ) → Trying p n i → i < n → p i ≡ false → Trying p n (i + 1)
  try_next i r h e = record { place = omega arith; rest = r.rest ∙ rw (less n i h, e, add-one i) }

  pub try_yes : (i : ℕ) → Trying p n i → i < n → p i ≡ true → true ≡ any_below p n
  try_yes i r h e = rw (r.rest, less n i h, e)

  pub try_no : (i : ℕ) → Trying p n i → n ≤ i → false ≡ any_below p n
  try_no i r h = rw (r.rest, none_left n i h)

-- ---- does the steps 0, 1, .. below n, each on what the one before left
pub record Repeating {A : Type 0} (f : ℕ → A → A) (n : ℕ) (start now : A) (i : ℕ) : Type 0 where
  pub place : i ≤ n
  pub rest : repeat f 0 n start ≡ repeat f i (n - i) now

module _ {A : Type 0} (f : ℕ → A → A) (n : ℕ) (start : A) where
  pub repeat_start : Repeating f n start start 0
  repeat_start = record { place = omega arith; rest = let z : n - 0 ≡ n = omega arith in rw z }

  pub repeat_next : (now next : A) (i : ℕ) → Repeating f n start now i → i < n → next ≡ f i now → Repeating f n start next (i + 1)
  repeat_next now next i r h e = record { place = omega arith; rest = r.rest ∙ rw (less n i h, add-one i, e) }

  pub repeat_end : (now : A) (i : ℕ) → Repeating f n start now i → n ≤ i → now ≡ repeat f 0 n start
  repeat_end now i r h = rw (r.rest, none_left n i h)

-- the same on words that keep their length, which a loop over a slice has to know
pub record Sweeping (f : ℕ → List ℕ → List ℕ) (n : ℕ) (ws now : List ℕ) (i : ℕ) : Type 0 where
  pub steps : Repeating f n ws now i
  pub same : length now ≡ length ws

module _ (f : ℕ → List ℕ → List ℕ) (n : ℕ) (ws : List ℕ) where
  pub sweep_start : Sweeping f n ws ws 0
  sweep_start = record { steps = repeat_start f n ws; same = refl }

  pub sweep_next : (now next : List ℕ) (i : ℕ) → Sweeping f n ws now i → i < n → next ≡ f i now → length next ≡ length now → Sweeping f n ws next (i + 1)
  sweep_next now next i r h e l = record { steps = repeat_next f n ws now next i r.steps h e; same = l ∙ r.same }

  pub sweep_end : (now : List ℕ) (i : ℕ) → Sweeping f n ws now i → n ≤ i → now ≡ repeat f 0 n ws
  sweep_end now i r h = repeat_end f n ws now i r.steps h

-- ---- counts the words that pass: n so far
pub record Tallying (p : ℕ → Bool) (ws : List ℕ) (n i : ℕ) : Type 0 where
  pub place : i ≤ length ws
  pub few : n ≤ i
  pub sum : n + count p (drop i ws) ≡ count p ws

module _ (p : ℕ → Bool) (ws : List ℕ) where
  pub tally_start : Tallying p ws 0 0
  tally_start = record { place = omega arith; few = omega arith; sum = omega arith }

  pub tally_hit : (n i : ℕ) → Tallying p ws n i → i < length ws → p (get_or ws i 0) ≡ true → Tallying p ws (n + 1) (i + 1)
  tally_hit n i r h e =
      let t : count p (drop i ws) ≡ count p (drop (i + 1) ws) + 1 = rw (drop-cons ws i 0 h, e, add-one i) in
      record { place = omega arith; few = omega arith; sum = omega arith }

  pub tally_miss : (n i : ℕ) → Tallying p ws n i → i < length ws → p (get_or ws i 0) ≡ false → Tallying p ws n (i + 1)
  tally_miss n i r h e =
      let t : count p (drop i ws) ≡ count p (drop (i + 1) ws) = rw (drop-cons ws i 0 h, e, add-one i) in
      record { place = omega arith; few = omega arith; sum = omega arith }

  pub tally_end : (n i : ℕ) → Tallying p ws n i → length ws ≤ i → n ≡ count p ws
  tally_end n i r h =
      let t : count p (drop i ws) ≡ 0 = rw (drop_of_length-le ws h) in
      omega arith

-- ---- empties the words that pass
-- the first i words are edited, and the later ones are as they were
abbrev edited : (ℕ → ℕ) → ℕ → List ℕ → List ℕ
edited f i ws = map f (take i ws) ++ drop i ws

map-append : (f : ℕ → ℕ) (a b : List ℕ) → map f (a ++ b) ≡ map f a ++ map f b
map-append f [] b = refl
map-append f (x ∷ a) b = ap (λ (l : List ℕ). f x ∷ l) (map-append f a b)

module _ (f : ℕ → ℕ) (ws : List ℕ) (i : ℕ) (h : i < length ws) where
  length-head : length (map f (take i ws)) ≡ i
  length-head = length-map (take i ws) f ∙ length-take-le i ws (omega arith)

  edit_read : get_or (edited f i ws) i 0 ≡ get_or ws i 0
  edit_read = rw (drop-cons ws i 0 h) (get_or_at (map f (take i ws)) (get_or ws i 0) (drop (suc i) ws) 0 i length-head)

  edit_more : map f (take i ws) ++ f (get_or ws i 0) ∷ drop (suc i) ws ≡ edited f (i + 1) ws
  edit_more = rw (add-one i, take-suc ws i 0 h, map-append f (take i ws) (get_or ws i 0 ∷ [])) (sym (append_snoc (map f (take i ws)) (f (get_or ws i 0)) (drop (suc i) ws)))

  edit_write : set (edited f i ws) i (f (get_or ws i 0)) ≡ edited f (i + 1) ws
  edit_write = rw (drop-cons ws i 0 h) (set_at (map f (take i ws)) (get_or ws i 0) (drop (suc i) ws) (f (get_or ws i 0)) i length-head) ∙ edit_more

  edit_skip : f (get_or ws i 0) ≡ get_or ws i 0 → edited f i ws ≡ edited f (i + 1) ws
  edit_skip e = sym (sym edit_more ∙ rw (e, drop-cons ws i 0 h))

pub record Wiping (p : ℕ → Bool) (ws now : List ℕ) (i : ℕ) : Type 0 where
  pub place : i ≤ length ws
  pub same : length now ≡ length ws
  pub list : now ≡ edited (cleared p) i ws

module _ (p : ℕ → Bool) (ws : List ℕ) where
  pub wipe_start : Wiping p ws ws 0
  wipe_start = record { place = omega arith; same = refl; list = refl }

  -- the word that a turn reads is the one that was there at first
  pub wipe_read : (now : List ℕ) (i : ℕ) → Wiping p ws now i → i < length now → get_or now i 0 ≡ get_or ws i 0
  wipe_read now i r l = rw r.list (edit_read (cleared p) ws i (omega arith))

  pub wipe_hit : (now : List ℕ) (i : ℕ) → Wiping p ws now i → i < length now → p (get_or now i 0) ≡ true → Wiping p ws (set now i 0) (i + 1)
  wipe_hit now i r l t =
      let z : cleared p (get_or ws i 0) ≡ 0 = rw (← wipe_read now i r l, t) in
      record {
        place = omega arith;
        same = length-set now i 0 ∙ r.same;
        list = rw (r.list, ← edit_write (cleared p) ws i (omega arith), z);
      }

  pub wipe_miss : (now : List ℕ) (i : ℕ) → Wiping p ws now i → i < length now → p (get_or now i 0) ≡ false → Wiping p ws now (i + 1)
  wipe_miss now i r l t =
      let e : cleared p (get_or ws i 0) ≡ get_or ws i 0 = rw (← wipe_read now i r l, t) in
      record { place = omega arith; same = r.same; list = r.list ∙ edit_skip (cleared p) ws i (omega arith) e }

  pub wipe_end : (now : List ℕ) (i : ℕ) → Wiping p ws now i → length now ≤ i → now ≡ wipe p ws
  wipe_end now i r l =
      let h : length ws ≤ i = omega arith in
      r.list ∙ rw (take_all i ws h, drop_of_length-le ws h) (append-nil (map (cleared p) ws))

-- ---- sets every word to v
pub record Filling (v : ℕ) (ws now : List ℕ) (i : ℕ) : Type 0 where
  pub place : i ≤ length ws
  pub same : length now ≡ length ws
  pub list : now ≡ replicate i v ++ drop i ws

module _ (v : ℕ) (ws : List ℕ) where
  pub fill_start : Filling v ws ws 0
  fill_start = record { place = omega arith; same = refl; list = fill_none ws v }

  pub fill_next : (now : List ℕ) (i : ℕ) → Filling v ws now i → i < length now → Filling v ws (set now i v) (i + 1)
  fill_next now i r l =
      let h : i < length ws = omega arith in
      record { place = omega arith; same = length-set now i v ∙ r.same; list = rw r.list (fill_more i v ws h) }

  pub fill_end : (now : List ℕ) (i : ℕ) → Filling v ws now i → length now ≤ i → now ≡ replicate (length ws) v
  fill_end now i r l =
      let e : i ≡ length ws = omega arith in
      r.list ∙ rw (e, drop-length ws) (append-nil (replicate (length ws) v))
