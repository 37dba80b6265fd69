-- What the tests of classes say of keys, and what keys say of the tests.
use Rattle.std.specs.Prelude.{ℕ, ◌+◌, ◌*◌, ◌/◌, ◌%◌, ◌<◌, true, false, ◌||◌, List, ◌≡◌, refl, eqb, ltb, length}
use Rattle.std.proofs.Common.{true≢false, ◌∙◌, arith}
use Rattle.std.proofs.Math.Logic.{⊎_elim}
use Rattle.std.proofs.Math.Path.{sym, ap}
use Rattle.std.proofs.Math.ListN.{get_or}
use borrow.Author.Tests.{eq-eqb, ne_eqb, eqb-true, eqb-false, ltb-true, ltb-false}
use Rattle.numbers.specs.CaseLaws.{cases, equal}
use Rattle.numbers.specs.Decides.{Decides}
use Rattle.numbers.specs.DecidesLaws.{says_yes, says_no, decides_as, decides_equal}
use Rattle.numbers.specs.Limits.{VMS}
use Rattle.numbers.specs.Packing.{PORT_BIT, VM_BIT, VM_FIELD, ADDRESS_FIELD, port_of, filled_of, key_of, address_of}
use Rattle.numbers.specs.PackingLaws.{word_whole, key_filled, address_key}
use Rattle.table.specs.Table.{Has, Distinct, find, lookup}
use Rattle.table.specs.TableLaws.{find_at, find_none, lookup_has, has_lookup}
use Rattle.std.specs.Prelude.{Some, None}
use Rattle.model.specs.Valid.{SameMap}
use Rattle.judge_keys.specs.Keys.{CLASSES, PLACES, class_of, low_of, map_word_of, PackedWord, Packed, Filled, Agreement, Held, InClass, Each, ClassOnce, ClassWithin, ClassAgree, ClassHeld, NewKey, Blank, Tested}
use Rattle.judge_keys.specs.ChainLaws.{class_small}
use Rattle.judge_keys.specs.PlaceLaws.{class_has, has_class}

-- ---- tests that leave the table of places blank
pub tested_yes : {P : Type 0} {place : List ℕ} → P → Blank place → Tested P place true
tested_yes p b = record { answer = says_yes p; blank = λ z. b }

pub tested_no : {P : Type 0} {place : List ℕ} → (P → ⊥) → Tested P place false
tested_no n = record { answer = says_no n; blank = λ z. absurd (true≢false (sym z)) }

-- ---- words: class and low bits are the address's
address_class : (u w : ℕ) → address_of u ≡ address_of w → class_of u ≡ class_of w
unfolding class_of
address_class u w e = ap (λ a. a / 2 / PLACES % CLASSES) e

address_low : (u w : ℕ) → address_of u ≡ address_of w → low_of u ≡ low_of w
unfolding low_of
address_low u w e = ap (λ a. a / 2 % PLACES) e

key_address : (u w : ℕ) → key_of u ≡ key_of w → address_of u ≡ address_of w
key_address u w e = ap (λ k. k % ADDRESS_FIELD) e

-- what a slot holds has the slot's address
address_kept : (w : ℕ) → address_of (map_word_of w) ≡ address_of w
address_kept w =
    let e : w ≡ port_of w * PORT_BIT + map_word_of w = omega (arith, word_whole w) in
    let k : key_of w ≡ port_of w * ADDRESS_FIELD + key_of (map_word_of w) = omega arith in
    sym (ap (λ n. n % ADDRESS_FIELD) k ∙ above (port_of w) (key_of (map_word_of w)))
  where
    above : (port low : ℕ) → (port * ADDRESS_FIELD + low) % ADDRESS_FIELD ≡ low % ADDRESS_FIELD
    above port low = omega arith

-- class and low bits of a packed word tell its key
packed_whole : (w : ℕ) → PackedWord w → key_of w ≡ (class_of w * PLACES + low_of w) * 2 + 1
unfolding class_of low_of
packed_whole w r =
    let a : w / VM_BIT / VM_FIELD ≡ port_of w = omega arith in
    let b : w / VM_BIT < VMS = omega arith in
    let c : address_of w ≡ key_of w = address_key w r.port in
    let d : key_of w / 2 / PLACES < CLASSES = omega arith in
    omega arith

packed_key : (u w : ℕ) → PackedWord u → PackedWord w → class_of u ≡ class_of w → low_of u ≡ low_of w → key_of u ≡ key_of w
packed_key u w r s e f = omega (arith, packed_whole u r, packed_whole w s)

-- a filled slot holds no empty word
filled_own : (w : ℕ) → filled_of w ≡ 1 → map_word_of w ≡ 0 → ⊥
filled_own w f e = omega arith

-- ---- all classes
once_classes : (ws : List ℕ) → ((c : ℕ) → c < CLASSES → ClassOnce ws c) → Distinct key_of ws
unfolding Distinct ClassOnce
once_classes ws all i j h l e = ⊎_elim (λ z. z) twice (equal (key_of (get_or ws j 0)) 0)
  where
    twice : (key_of (get_or ws j 0) ≡ 0 → ⊥) → key_of (get_or ws j 0) ≡ 0
    twice n =
        let a = key_address (get_or ws i 0) (get_or ws j 0) e in
        absurd
        (all (class_of (get_or ws j 0)) (class_small _) i j h
        (record { within = omega arith; filled = λ z. n (omega (arith, z, e)); class = address_class _ _ a })
        (record { within = l; filled = λ z. n (omega (arith, z)); class = refl })
        (address_low _ _ a))

once_class : (ws : List ℕ) → Packed ws → Distinct key_of ws → (c : ℕ) → ClassOnce ws c
unfolding Packed Distinct ClassOnce
once_class ws packed d c i j h a b e =
    let p = packed (get_or ws i 0) (class_has ws c i a) in
    let q = packed (get_or ws j 0) (class_has ws c j b) in
    let k = packed_key (get_or ws i 0) (get_or ws j 0) p q (a.class ∙ sym b.class) e in
    omega (arith, d i j h b.within k, key_filled (get_or ws j 0) q.filled)

-- what each class says of its words is said of each word
each_word : (ws : List ℕ) (P : ℕ → Type 0) → ((c : ℕ) → c < CLASSES → Each ws c (λ i. P (get_or ws i 0))) → (w : ℕ) → Has ws w → P w
unfolding Each
each_word ws P all w r = rw r.holds at (all (class_of w) (class_small w) r.spot (has_class ws w (class_of w) r refl))

-- ---- a map that has each word of another
module _ (some map : List ℕ) (packed : Packed some) where
  within_lookup : Distinct key_of map → ((w : ℕ) → Has some w → Has map w) → (k : ℕ) → (lookup key_of some k ≡ 0 → ⊥) → lookup key_of map k ≡ lookup key_of some k
  unfolding Packed
  within_lookup d all k n =
      let (r, e) = lookup_has key_of some k n in
      let w = lookup key_of some k in
      ap (lookup key_of map) (sym e) ∙ has_lookup key_of map w d (all w r) (key_filled w (packed w r).filled)

  lookup_within : Distinct key_of some → SameMap some map → (c : ℕ) → ClassWithin some map c
  unfolding Packed SameMap Each
  lookup_within d same c i q =
      let w = get_or some i 0 in
      let r = class_has some c i q in
      let o = key_filled w (packed w r).filled in
      let e : lookup key_of map (key_of w) ≡ w = sym (same (key_of w) o) ∙ has_lookup key_of some w d r o in
      rw e at (lookup_has key_of map (key_of w) (λ z. q.filled (sym e ∙ z))).0

module _ (map walker : List ℕ) (p : Packed map) (q : Packed walker) where
  pub agree_classes : ((c : ℕ) → c < CLASSES → ClassAgree map walker c) → Agreement map walker
  unfolding SameMap
  agree_classes all = record { map-once = m; walker_once = w; same = same }
    where
      m : Distinct key_of map
      m = once_classes map (λ c h. (all c h).map-once)

      w : Distinct key_of walker
      w = once_classes walker (λ c h. (all c h).walker_once)

      same : (k : ℕ) → 0 < k → lookup key_of map k ≡ lookup key_of walker k
      same k o =
          ⊎_elim (λ z. ⊎_elim (λ y. z ∙ sym y) (within_lookup walker map q m (each_word walker (Has map) (λ c h. (all c h).walker_within)) k) (equal (lookup key_of walker k) 0))
          (λ n. sym (within_lookup map walker p w (each_word map (Has walker) (λ c h. (all c h).map-within)) k n))
          (equal (lookup key_of map k) 0)

  pub agree_class : Agreement map walker → (c : ℕ) → ClassAgree map walker c
  unfolding SameMap
  agree_class a c =
      record {
        map-once = once_class map p a.map-once c;
        walker_once = once_class walker q a.walker_once c;
        map-within = lookup_within map walker p a.map-once a.same c;
        walker_within = lookup_within walker map q a.walker_once (λ k o. sym (a.same k o)) c;
      }

-- ---- a map that has the word that each slot holds
module _ (slots map : List ℕ) (packed : Packed map) where
  has_held : (w : ℕ) → Distinct key_of map → Has map (map_word_of w) → lookup key_of map (address_of w) ≡ map_word_of w
  unfolding Packed
  has_held w d r =
      let p = packed (map_word_of w) r in
      ap (lookup key_of map) (sym (address_kept w) ∙ address_key (map_word_of w) p.port)
      ∙ has_lookup key_of map (map_word_of w) d r (key_filled (map_word_of w) p.filled)

  pub held_classes : ((c : ℕ) → c < CLASSES → ClassHeld slots map c) → Held slots map
  held_classes all =
      let d = once_classes map (λ c h. (all c h).once) in
      record { once = d; each = λ w r. has_held w d (each_word slots (λ s. Has map (map_word_of s)) (λ c h. (all c h).each) w r) }

  pub held_class : Filled slots → Held slots map → (c : ℕ) → ClassHeld slots map c
  unfolding Filled Each
  held_class filled t c = record { once = once_class map packed t.once c; each = each }
    where
      each : (i : ℕ) → InClass slots c i → Has map (map_word_of (get_or slots i 0))
      each i r =
          let w = get_or slots i 0 in
          let h = class_has slots c i r in
          let e = t.each w h in
          rw e at (lookup_has key_of map (address_of w) (λ z. filled_own w (filled w h) (sym e ∙ z))).0

-- the word that a slot holds is of the slot's class
pub slot_class : (w : ℕ) → class_of (map_word_of w) ≡ class_of w
slot_class w = address_class (map_word_of w) w (address_kept w)

-- ---- one place after the other, each the first of its key
module _ (ws : List ℕ) (i : ℕ) (h : i < length ws) where
  pub new_found : (k : ℕ) → find key_of ws (key_of (get_or ws i 0)) ≡ Some k → Decides (eqb k i || eqb (key_of (get_or ws i 0)) 0) (NewKey ws i)
  unfolding NewKey
  new_found k e = ⊎_elim here (λ n. rw (ne_eqb k i n) (decides_as (decides_equal _ 0) (λ z j l q. z) (λ w. w k (earlier n) own))) (equal k i)
    where
      own : key_of (get_or ws k 0) ≡ key_of (get_or ws i 0)
      own = eqb-true _ _ (find_at key_of ws (key_of (get_or ws i 0)) k e).passes

      before : (j : ℕ) → j < k → key_of (get_or ws j 0) ≡ key_of (get_or ws i 0) → ⊥
      before j l = eqb-false _ _ ((find_at key_of ws (key_of (get_or ws i 0)) k e).before j l)

      earlier : (k ≡ i → ⊥) → k < i
      earlier n = ⊎_elim (ltb-true k i) (λ f. absurd (before i (omega (arith, ltb-false k i f)) refl)) (cases (ltb k i))

      here : k ≡ i → Decides (eqb k i || eqb (key_of (get_or ws i 0)) 0) (NewKey ws i)
      here q = rw (eq-eqb k i q) (says_yes (λ j l s. absurd (before j (omega arith) s)))

  pub new_none : find key_of ws (key_of (get_or ws i 0)) ≡ None → Decides true (NewKey ws i)
  new_none e = absurd (find_none key_of ws (key_of (get_or ws i 0)) e i h refl)

pub new_once : (ws : List ℕ) → ((j : ℕ) → j < length ws → NewKey ws j) → Distinct key_of ws
unfolding Distinct NewKey
new_once ws all i j h l e = all j l i h e

pub once_new : (ws : List ℕ) → Distinct key_of ws → (j : ℕ) → j < length ws → NewKey ws j
unfolding Distinct NewKey
once_new ws d j l i h e = d i j h l e
