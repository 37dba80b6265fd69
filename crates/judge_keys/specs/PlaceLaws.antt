-- Laws of the table of places: a chain entered, cleared, or taken out word by word.
use Rattle.std.specs.Prelude.{ℕ, suc, ◌+◌, ◌-◌, ◌≤◌, ◌<◌, List, Some, ◌⊎◌, ◌≡◌, refl, eqb, ltb, length, set, replicate}
use Rattle.std.proofs.Common.{inl, inr, ◌∙◌, arith, length-set, get_or-set_same, get_or-set_other, ltb-true, ltb-false}
use Rattle.std.proofs.Math.Logic.{⊎_elim}
use Rattle.std.proofs.Math.Path.{sym, ap}
use Rattle.std.proofs.Math.ListN.{get_or}
use Rattle.std.proofs.lemmas.List.{length-replicate, get_or-replicate}
use Rattle.numbers.specs.CaseLaws.{cases, equal}
use Rattle.numbers.specs.Decides.{Decides}
use Rattle.numbers.specs.DecidesLaws.{decides_as, decides_equal}
use Rattle.table.specs.Table.{Has}
use Rattle.judge_keys.specs.Keys.{PLACES, class_of, low_of, InClass, Each, ClassOnce, ClassAgree, Links, Chain, WalksOn, Blank, Inside, Shown, Shows, Entered, Unseen, Seen, Matched, NoneLeft}
use Rattle.judge_keys.specs.ChainLaws.{Standing, walk_on, walk_less, walk_seen}

pub low_small : (w : ℕ) → low_of w < PLACES
unfolding low_of
low_small w = omega arith

pub low_room : (place : List ℕ) (w : ℕ) → length place ≡ PLACES → low_of w < length place
low_room place w e = omega (arith, low_small w)

-- ---- places of a class
pub class_has : (ws : List ℕ) (c i : ℕ) → InClass ws c i → Has ws (get_or ws i 0)
class_has ws c i r = record { spot = i; within = r.within; holds = refl; filled = r.filled }

pub has_class : (ws : List ℕ) (w c : ℕ) (r : Has ws w) → class_of w ≡ c → InClass ws c r.spot
has_class ws w c r e = record { within = r.within; filled = λ z. r.filled (sym r.holds ∙ z); class = rw r.holds e }

-- the low bits of the word at a place
abbrev low_at : List ℕ → ℕ → ℕ
low_at ws spot = low_of (get_or ws spot 0)

-- ---- the table of places
pub blank_start : (place : List ℕ) → place ≡ replicate PLACES 0 → Blank place
blank_start place e = record { size = rw e (length-replicate {A = ℕ} PLACES 0); zero = λ l h. rw e (get_or-replicate {A = ℕ} PLACES l 0 0 h) }

-- what shows nothing is blank
shows_blank : (ws place : List ℕ) (c : ℕ) (P : ℕ → Type 0) → Shows ws c P place → ((p : ℕ) → InClass ws c p → P p → get_or place (low_of (get_or ws p 0)) 0 ≡ suc p → ⊥) → Blank place
shows_blank ws place c P t none = record { size = t.size; zero = λ l h. ⊎_elim (λ z. z) (λ n. absurd (shown l h n)) (equal (get_or place l 0) 0) }
  where
    shown : (l : ℕ) → l < PLACES → (get_or place l 0 ≡ 0 → ⊥) → ⊥
    shown l h n =
        let e : get_or place l 0 ≡ suc (get_or place l 0 - 1) = omega arith in
        let s = t.only l (get_or place l 0 - 1) h e in
        none (get_or place l 0 - 1) s.0 s.2 (rw s.1 e)

-- a word taken out leaves the places of other low bits
shows_clear : (ws place : List ℕ) (c w : ℕ) (P Q : ℕ → Type 0) → Shows ws c P place → ((p : ℕ) → InClass ws c p → (low_of (get_or ws p 0) ≡ low_of w → ⊥) → P p → Q p) → Shows ws c Q (set place (low_of w) 0)
shows_clear ws place c w P Q t keep = record { size = length-set place (low_of w) 0 ∙ t.size; only = only }
  where
    only : (l p : ℕ) → l < PLACES → get_or (set place (low_of w) 0) l 0 ≡ suc p → InClass ws c p × (low_of (get_or ws p 0) ≡ l) × Q p
    only l p h e = ⊎_elim (λ q. absurd (omega (arith, get_or-set_same place (low_of w) 0 0 (low_room place w t.size), rw q at e))) old (equal l (low_of w))
      where
        old : (l ≡ low_of w → ⊥) → InClass ws c p × (low_of (get_or ws p 0) ≡ l) × Q p
        old d =
            let s = t.only l p h (sym (get_or-set_other place (low_of w) l 0 0 d) ∙ e) in
            (s.0, s.1, keep p s.0 (λ q. d (sym s.1 ∙ q)) s.2)

-- ---- entered and cleared
module _ (ws : List ℕ) (c : ℕ) (place : List ℕ) where
  pub clear_end : Shows ws c (λ p. p < 0) place → Blank place
  clear_end t = shows_blank ws place c _ t (λ p q h e. omega arith)

  -- a place that is taken when the walk comes to it is taken by another place of the same key
  pub enter_twice : (at spot : ℕ) → Entered ws c at place → InClass ws c spot → at ≡ spot + 1 → (get_or place (low_of (get_or ws spot 0)) 0 ≡ 0 → ⊥) → ClassOnce ws c → ⊥
  unfolding ClassOnce
  enter_twice at spot t r e f once =
      let low = low_of (get_or ws spot 0) in
      let s = t.shows.only low (get_or place low 0 - 1) (low_small _) (omega arith) in
      once spot (get_or place low 0 - 1) (omega (arith, s.2)) r s.0 (sym s.1)

  pub enter_once : Entered ws c 0 place → ClassOnce ws c
  unfolding ClassOnce
  enter_once t i j h a b e = omega (arith, t.there i (omega arith) a, t.there j (omega arith) b, ap (λ l. get_or place l 0) e)

module _ (ws next : List ℕ) (c : ℕ) (place : List ℕ) where
  -- entering a chain: no place of it has been passed
  pub enter_start : (from : ℕ) → Chain ws next c from → Blank place → Entered ws c from place
  enter_start from r b =
      record {
        shows = record { size = b.size; only = λ l p h e. absurd (omega (arith, b.zero l h)) };
        there = λ k a q. absurd (r.head.none k a q.within q);
      }

  -- what is left to clear: every place of the chain
  pub clear_start : (from : ℕ) → Chain ws next c from → Entered ws c 0 place → Shows ws c (λ p. p < from) place
  clear_start from r t =
      record {
        size = t.shows.size;
        only = λ l p h e. let s = t.shows.only l p h e in (s.0, s.1, before p s.0);
      }
    where
      before : (p : ℕ) → InClass ws c p → p < from
      before p q = ⊎_elim (ltb-true p from) (λ f. absurd (r.head.none p (omega (arith, ltb-false p from f)) q.within q)) (cases (ltb p from))

  module _ (at spot on : ℕ) (l : Links ws next (length ws)) (s : WalksOn next at (Some spot) on) (r : Standing ws c at) where
    pub enter_next : Entered ws c at place → get_or place (low_of (get_or ws spot 0)) 0 ≡ 0 → Entered ws c on (set place (low_of (get_or ws spot 0)) (spot + 1))
    enter_next t z = record { shows = record { size = length-set place (low_at ws spot) (spot + 1) ∙ t.shows.size; only = only }; there = there }
      where
        room : low_at ws spot < length place
        room = low_room place (get_or ws spot 0) t.shows.size

        less : on < at
        less = walk_less ws next c at spot on l s r

        only : (i p : ℕ) → i < PLACES → get_or (set place (low_at ws spot) (spot + 1)) i 0 ≡ suc p → InClass ws c p × (low_of (get_or ws p 0) ≡ i) × (on ≤ p)
        only i p h e = ⊎_elim new old (equal i (low_at ws spot))
          where
            new : i ≡ low_at ws spot → InClass ws c p × (low_of (get_or ws p 0) ≡ i) × (on ≤ p)
            new q =
                let g : spot + 1 ≡ suc p = sym (get_or-set_same place (low_at ws spot) (spot + 1) 0 room) ∙ rw q at e in
                let o : p ≡ spot = omega arith in
                rw o (walk_on ws next c at spot on l s r, sym q, omega (arith, less))

            old : (i ≡ low_at ws spot → ⊥) → InClass ws c p × (low_of (get_or ws p 0) ≡ i) × (on ≤ p)
            old d = let g = t.shows.only i p h (sym (get_or-set_other place (low_at ws spot) i (spot + 1) 0 d) ∙ e) in (g.0, g.1, omega (arith, less, g.2))

        there : (k : ℕ) → on ≤ k → InClass ws c k → get_or (set place (low_at ws spot) (spot + 1)) (low_of (get_or ws k 0)) 0 ≡ suc k
        there k a q = ⊎_elim new old (equal k spot)
          where
            new : k ≡ spot → get_or (set place (low_at ws spot) (spot + 1)) (low_of (get_or ws k 0)) 0 ≡ suc k
            new e = rw (e, get_or-set_same place (low_at ws spot) (spot + 1) 0 room) (omega arith)

            old : (k ≡ spot → ⊥) → get_or (set place (low_at ws spot) (spot + 1)) (low_of (get_or ws k 0)) 0 ≡ suc k
            old d =
                let g = t.there k (walk_seen ws next c at spot on l s r k a q d) q in
                get_or-set_other place (low_at ws spot) (low_of (get_or ws k 0)) (spot + 1) 0 (λ e. omega (arith, rw e at g)) ∙ g

    pub clear_next : Shows ws c (λ p. p < at) place → Shows ws c (λ p. p < on) (set place (low_of (get_or ws spot 0)) 0)
    clear_next t = shows_clear ws place c (get_or ws spot 0) _ _ t before
      where
        before : (p : ℕ) → InClass ws c p → (low_of (get_or ws p 0) ≡ low_at ws spot → ⊥) → p < at → p < on
        before p q d h =
            ⊎_elim (ltb-true p on)
            (λ f. absurd (omega (arith, walk_seen ws next c at spot on l s r p (omega (arith, ltb-false p on f)) q (λ e. d (rw e refl)))))
            (cases (ltb p on))

-- ---- a word against the table of places
pub shows_inside : (map place : List ℕ) (c : ℕ) (P : ℕ → Type 0) → Shows map c P place → Inside map place
shows_inside map place c P t = record { size = t.size; within = λ l p h e. (t.only l p h e).0.within }

module _ (map place : List ℕ) (w spot : ℕ) (t : Inside map place) (e : get_or place (low_of w) 0 ≡ spot + 1) where
  pub shown_place : spot < length map
  shown_place = t.within (low_of w) spot (low_small w) (omega arith)

  pub shown_test : Decides (eqb (get_or map spot 0) w) (Shown map place w)
  shown_test =
      decides_as (decides_equal (get_or map spot 0) w)
      (λ q. record { spot = spot; there = omega arith; holds = q })
      (λ s. let i : spot ≡ s.spot = omega arith in rw i s.holds)

pub shown_none : (map place : List ℕ) (w : ℕ) → get_or place (low_of w) 0 ≡ 0 → Shown map place w → ⊥
shown_none map place w z s = omega arith

pub shown_has : (map place : List ℕ) (c w : ℕ) (P : ℕ → Type 0) → Shows map c P place → Shown map place w → Has map w
shown_has map place c w P t s =
    let r = (t.only (low_of w) s.spot (low_small w) s.there).0 in
    record { spot = s.spot; within = r.within; holds = s.holds; filled = λ z. r.filled (s.holds ∙ z) }

-- what is entered is shown
pub has_shown : (map place : List ℕ) (c w : ℕ) → Entered map c 0 place → class_of w ≡ c → Has map w → Shown map place w
has_shown map place c w t e r =
    record { spot = r.spot; there = rw r.holds at (t.there r.spot (omega arith) (has_class map w c r e)); holds = r.holds }

-- ---- the words of map and walker, taken out one by one
module _ (map walker place : List ℕ) (c : ℕ) where
  pub match_start : (next : List ℕ) (from : ℕ) → Chain walker next c from → Entered map c 0 place → Matched map walker c from place
  match_start next from r t =
      record {
        shows = record { size = t.shows.size; only = λ l p h e. let s = t.shows.only l p h e in (s.0, s.1, λ j a q. absurd (none j a q)) };
        there = λ k q. inl (t.there k (omega arith) q);
        within = λ j a q. absurd (none j a q);
        once = λ i j a h q. absurd (none i a q);
      }
    where
      none : (j : ℕ) → from ≤ j → InClass walker c j → ⊥
      none j a q = r.head.none j a q.within q

  module _ (at spot : ℕ) (t : Matched map walker c at place) (own : InClass walker c spot) (e : at ≡ spot + 1) where
    -- a word that is not there is not in the map, or was taken before
    pub match_fails : (Shown map place (get_or walker spot 0) → ⊥) → ClassAgree map walker c → ⊥
    unfolding Each ClassOnce
    match_fails lacks a =
        let r = a.walker_within spot own in
        ⊎_elim (λ z. lacks (record { spot = r.spot; there = rw r.holds at z; holds = r.holds }))
        (λ (j, h, q, z). a.walker_once spot j (omega arith) own q (ap low_of (sym (z ∙ r.holds))))
        (t.there r.spot (has_class map (get_or walker spot 0) c r own.class))

    module _ (next : List ℕ) (on : ℕ) (l : Links walker next (length walker)) (step : WalksOn next at (Some spot) on) (r : Standing walker c at) (s : Shown map place (get_or walker spot 0)) where
      -- the place that shows the word is of its low bits, and no word before was
      alone : (j : ℕ) → at ≤ j → InClass walker c j → low_of (get_or walker j 0) ≡ low_at walker spot → ⊥
      alone j a q z =
          let o = t.shows.only (low_at walker spot) s.spot (low_small _) s.there in
          o.2 j a q (z ∙ sym o.1)

      pub match_next : Matched map walker c on (set place (low_of (get_or walker spot 0)) 0)
      match_next = record { shows = shows_clear map place c (get_or walker spot 0) _ _ t.shows unseen; there = there; within = within; once = once }
        where
          less : on < at
          less = walk_less walker next c at spot on l step r

          seen : (j : ℕ) → on ≤ j → InClass walker c j → (j ≡ spot → ⊥) → at ≤ j
          seen = walk_seen walker next c at spot on l step r

          unseen : (p : ℕ) → InClass map c p → (low_of (get_or map p 0) ≡ low_at walker spot → ⊥) → Unseen map walker c at p → Unseen map walker c on p
          unseen p q d u j a b f = ⊎_elim (λ z. d (sym (rw z at f))) (λ z. u j (seen j a b z) b f) (equal j spot)

          there : (k : ℕ) → InClass map c k → (get_or (set place (low_at walker spot) 0) (low_of (get_or map k 0)) 0 ≡ suc k) ⊎ Seen map walker c on k
          there k q = ⊎_elim stands (λ (j, a, b, z). inr (j, omega (arith, less), b, z)) (t.there k q)
            where
              stands : get_or place (low_of (get_or map k 0)) 0 ≡ suc k → (get_or (set place (low_at walker spot) 0) (low_of (get_or map k 0)) 0 ≡ suc k) ⊎ Seen map walker c on k
              stands f =
                  ⊎_elim (λ z. let o : s.spot ≡ k = omega (arith, rw z at f, s.there) in inr (spot, omega (arith, less), own, sym (rw o at s.holds)))
                  (λ d. inl (get_or-set_other place (low_at walker spot) (low_of (get_or map k 0)) 0 0 d ∙ f))
                  (equal (low_of (get_or map k 0)) (low_at walker spot))

          within : (j : ℕ) → on ≤ j → InClass walker c j → Has map (get_or walker j 0)
          within j a q = ⊎_elim (λ z. rw z (shown_has map place c (get_or walker spot 0) _ t.shows s)) (λ d. t.within j (seen j a q d) q) (equal j spot)

          once : (i j : ℕ) → on ≤ i → i < j → InClass walker c i → InClass walker c j → low_of (get_or walker i 0) ≡ low_of (get_or walker j 0) → ⊥
          once i j a h q b f = ⊎_elim (λ z. alone j (omega arith) b (sym (rw z at f))) (λ d. t.once i j (seen i a q d) h q b f) (equal i spot)

  -- ---- what is left
  module _ (t : Matched map walker c 0 place) where
    -- where the two agree nothing is
    pub agree_none : ClassAgree map walker c → NoneLeft map c place
    unfolding Each
    agree_none a k q = ⊎_elim (λ z. z) (λ n. absurd (stays n)) (equal (get_or place (low_of (get_or map k 0)) 0) 0)
      where
        stays : (get_or place (low_of (get_or map k 0)) 0 ≡ 0 → ⊥) → ⊥
        stays n =
            let r = a.map-within k q in
            let o = t.shows.only (low_of (get_or map k 0)) (get_or place (low_of (get_or map k 0)) 0 - 1) (low_small _) (omega arith) in
            o.2 r.spot (omega arith) (has_class walker (get_or map k 0) c r q.class) (ap low_of r.holds ∙ sym o.1)

    pub none_agree : ClassOnce map c → NoneLeft map c place → ClassAgree map walker c
    unfolding Each ClassOnce
    none_agree m out =
        record {
          map-once = m;
          walker_once = λ i j h. t.once i j (omega arith) h;
          map-within = λ k q. ⊎_elim (λ e. absurd (omega (arith, out k q))) (λ (j, a, b, e). record { spot = j; within = b.within; holds = e; filled = q.filled }) (t.there k q);
          walker_within = λ j q. t.within j (omega arith) q;
        }

    pub none_blank : NoneLeft map c place → Blank place
    unfolding Each
    none_blank out = shows_blank map place c _ t.shows (λ p q h e. omega (arith, out p q))
