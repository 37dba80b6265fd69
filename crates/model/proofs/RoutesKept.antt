-- Edits of a route keep its part of validity, each law once and for either side.
use Prim.Native.Nat.{ℕ, ◌+◌, ◌≤◌, ◌<◌}
use mathlib.Core.Bool.{Bool, true}
use mathlib.Core.List.{List}
use mathlib.Core.Logic.{◌⊎◌, ⊎_elim}
use mathlib.Core.Path.{◌≡◌, refl, sym, ap, ◌∙◌}
use native.Mathlib.Omega.{arith}
use lib.Dec.{eqb, ltb}
use lib.ListN.{length, set}
use lib.Seq.{get_or-set_same, get_or-set_other}
use borrow.Author.Tests.{eqb-false, ltb-true}
use Rattle.numbers.specs.CaseLaws.{cases, equal}
use Rattle.numbers.specs.Limits.{PAGES, VMS, GUEST_PAGES, ACCESSES, GENERATIONS, PORTS, SLOTS, IDLE}
use Rattle.numbers.specs.Packing.{entry_of, filled_of, key_of, address_of, slot_word, map_word, entry, key, EntryFits, WordFits}
use Rattle.numbers.specs.PackingLaws.{entry_fits, entry_filled, entry_page, word_port, word_page, word_vm, word_guest, word_entry, word_filled, word_address, key_whole, key_filled, address_filled, unported, unported_vm, unported_guest, unported_filled, unported_key}
use Rattle.numbers.specs.declared.Side.{Side}
use Rattle.table.specs.Scan.{wipe}
use Rattle.table.specs.ScanLaws.{length-wipe, has_wipe_inv}
use Rattle.table.specs.Table.{free_entries, Has, has_key, Distinct, lookup, place, put, erase, set_at, or_else}
use Rattle.table.specs.TableLaws.{Alone, lookup_has, has_set_inv, distinct_set, distinct_empty, find_none, place_is, place_none, has_put_inv, distinct_put, distinct_wipe, length-put, lookup_put_other}
use Rattle.table.specs.AgreeLaws.{Keyed, agree_free, agree_place, agree_put, agree_wipe, lookup_wipe}
use Rattle.std.specs.Prelude.{Option, Some, None}
use Rattle.numbers.specs.declared.Region.{Region}
use Rattle.model.specs.Views.{knows, may_map}
use Rattle.model.specs.Regions.{in_region}
use Rattle.model.specs.Ports.{fill_place, next_hand}
use Rattle.model.specs.Valid.{EntryGood, MapGood, SameMap, SlotGood, CacheGood, PortsGood}

-- ---- the word that a mapping makes
module _ (vm guest page access generation : ℕ) (v : vm < VMS) (g : guest < GUEST_PAGES) (p : page < PAGES) (a : access < ACCESSES) (n : generation < GENERATIONS) where
  pub entry_key : key_of (map_word vm guest (entry page access generation)) ≡ key vm guest
  entry_key = omega arith

  pub entry_ok : EntryFits page access generation
  entry_ok = record { page_fits = omega arith; access_fits = a; generation_fits = n }

  pub word_ok : WordFits vm guest (entry page access generation)
  word_ok = record { vm_fits = omega arith; guest_fits = g; low_fits = entry_fits entry_ok }

  pub entry_made : (side : Side) (pages known : ℕ) (sets pairs : List ℕ) → page < pages → knows known vm ≡ true → may_map side sets pairs vm page ≡ true →
      EntryGood side pages known sets pairs (map_word vm guest (entry page access generation))
  entry_made side pages known sets pairs b k m =
      let vm_is = word_vm 0 word_ok in
      let page_is = word_page 0 word_ok ∙ entry_page entry_ok in
      record {
        port = word_port 0 word_ok;
        filled = word_filled 0 word_ok ∙ entry_filled entry_ok;
        page = rw page_is b;
        vm = rw vm_is k;
        may = rw (vm_is, page_is) m;
      }

-- ---- a side's two maps
module _ (side : Side) (pages known : ℕ) (sets pairs : List ℕ) where
  pub map-put : (table : List ℕ) (k w : ℕ) → EntryGood side pages known sets pairs w → key_of w ≡ k → MapGood side pages known sets pairs table → MapGood side pages known sets pairs (put key_of table k w)
  map-put table k w e q g =
      record {
        each = λ u h. ⊎_elim (λ s. rw s e) (g.each u) (has_put_inv key_of table k w u h);
        once = distinct_put key_of table k w q (rw q at (key_filled w e.filled)) g.once;
      }

  pub map-wipe : (p : ℕ → Bool) (table : List ℕ) → MapGood side pages known sets pairs table → MapGood side pages known sets pairs (wipe p table)
  map-wipe p table g = record { each = λ u h. g.each u (has_wipe_inv p table u h).0; once = distinct_wipe key_of refl p table g.once }

  map-keyed : (table : List ℕ) → MapGood side pages known sets pairs table → Keyed key_of table
  map-keyed table g w h = key_filled w (g.each w h).filled

  -- the software map and the walker's, equal as maps and of one length
  pub record MapsGood (ws vs : List ℕ) : Type 0 where
    pub map : MapGood side pages known sets pairs ws
    pub walker : MapGood side pages known sets pairs vs
    pub same : SameMap ws vs
    pub as_long : length vs ≡ length ws

  module _ (map walker : List ℕ) (g : MapsGood map walker) where
    -- the walker has as much room as the map
    pub maps_free : free_entries map ≤ free_entries walker
    unfolding SameMap
    maps_free = agree_free key_of map walker g.as_long (map-keyed walker g.walker) g.walker.once g.same

    -- one entry into both, where the map has a place for it
    pub maps_put : (k w i : ℕ) → EntryGood side pages known sets pairs w → key_of w ≡ k → place key_of map k ≡ Some i → MapsGood (put key_of map k w) (put key_of walker k w)
    unfolding SameMap
    maps_put k w i e q p =
        let (j, p') = agree_place key_of refl map walker k i (rw q at (key_filled w e.filled)) g.as_long (map-keyed walker g.walker) g.walker.once g.same p in
        record {
          map = map-put map k w e q g.map;
          walker = map-put walker k w e q g.walker;
          same = agree_put key_of refl map walker k w i j q p p' g.same;
          as_long = rw (length-put key_of map k w, length-put key_of walker k w) g.as_long;
        }

    -- the same entries out of both
    pub maps_wipe : (p : ℕ → Bool) → MapsGood (wipe p map) (wipe p walker)
    unfolding SameMap
    maps_wipe p =
        record {
          map = map-wipe p map g.map;
          walker = map-wipe p walker g.walker;
          same = agree_wipe key_of refl p map walker g.map.once g.walker.once g.same;
          as_long = rw (length-wipe p map, length-wipe p walker) g.as_long;
        }

-- ---- the cache
-- a slot has the walker's entry, so the walker has its address
module _ (walker cache : List ℕ) (g : CacheGood walker cache) where
  pub slot_walks : (w : ℕ) → Has cache w → lookup key_of walker (address_of w) ≡ 0 → ⊥
  slot_walks w h z =
      let s = g.each w h in
      let f : filled_of (unported w) ≡ 1 = unported_filled w ∙ s.filled in
      let e : unported w ≡ 0 = sym s.entry ∙ z in
      absurd (let o : filled_of 0 ≡ 1 = rw e at f in omega arith)

  -- slots go
  pub cache_wipe : (q : ℕ → Bool) → CacheGood walker (wipe q cache)
  cache_wipe q = record { each = λ w h. g.each w (has_wipe_inv q cache w h).0; once = distinct_wipe key_of refl q cache g.once }

  -- another walker, which is the same at the address of every slot
  pub cache_over : (walker' : List ℕ) → ((w : ℕ) → Has cache w → lookup key_of walker' (address_of w) ≡ lookup key_of walker (address_of w)) → CacheGood walker' cache
  cache_over walker' same =
      record {
        each = λ w h. let s = g.each w h in record { port = s.port; filled = s.filled; entry = same w h ∙ s.entry };
        once = g.once;
      }

  -- a slot is stored where no other has its key, or emptied
  pub cache_store : (k i w : ℕ) → SlotGood walker w → key_of w ≡ k → Alone key_of cache k i → CacheGood walker (set cache i w)
  cache_store k i w s e only =
      record { each = λ u h. ⊎_elim (λ q. rw q s) (g.each u) (has_set_inv cache i w u h); once = distinct_set key_of cache k i w e only g.once }

  pub cache_empty : (i : ℕ) → CacheGood walker (set cache i 0)
  cache_empty i =
      record {
        each = λ u h. ⊎_elim (λ q. absurd (h.filled q)) (g.each u) (has_set_inv cache i 0 u h);
        once = distinct_empty key_of refl cache i g.once;
      }

  -- where a fill puts its slot, wherever the hand stands
  pub cache_fill : (hand k w : ℕ) → SlotGood walker w → key_of w ≡ k → CacheGood walker (set_at cache (fill_place cache hand k) w)
  unfolding fill_place
  cache_fill hand k w s e = go (place key_of cache k) refl
    where
      go : (f : Option ℕ) → place key_of cache k ≡ f → CacheGood walker (set_at cache (or_else f (Some hand)) w)
      go (Some i) p = cache_store k i w s e (place_is key_of cache k i g.once (rw e at (key_filled w s.filled)) p).alone
      go None p = cache_store k hand w s e (λ j h n. find_none key_of cache k (place_none key_of cache k p) j h)

  -- an entry into the walker at an address that no slot has
  pub cache_put : (k w : ℕ) → key_of w ≡ k → ((u : ℕ) → Has cache u → k ≡ address_of u → ⊥) → CacheGood (put key_of walker k w) cache
  cache_put k w e none =
      cache_over (put key_of walker k w) (λ u h. lookup_put_other key_of refl walker k w (address_of u) e (address_filled u (g.each u h).filled) (none u h))

  -- a key that the walker lacked
  pub cache_put_new : (k w : ℕ) → key_of w ≡ k → lookup key_of walker k ≡ 0 → CacheGood (put key_of walker k w) cache
  cache_put_new k w e z = cache_put k w e (λ u h q. slot_walks u h (rw q at z))

  -- the same entries out of the walker and the cache: `p` of an entry says what `q` says of its slots
  pub cache_wipe_both : (p q : ℕ → Bool) → ((w : ℕ) → p (unported w) ≡ q w) → Distinct key_of walker → CacheGood (wipe p walker) (wipe q cache)
  cache_wipe_both p q alike d = record { each = each; once = (cache_wipe q).once }
    where
      each : (w : ℕ) → Has (wipe q cache) w → SlotGood (wipe p walker) w
      each w h =
          let (r, f) = has_wipe_inv q cache w h in
          let s = g.each w r in
          record {
            port = s.port;
            filled = s.filled;
            entry = lookup_wipe key_of refl p walker (address_of w) (address_filled w s.filled) d ∙ rw (s.entry, alike w, f);
          }

-- a region's test does not look at the port
pub region_unported : (region : Region) (w : ℕ) → in_region region (unported w) ≡ in_region region w
region_unported region w = rw (unported_filled w, unported_vm w, unported_guest w)

-- an entry into the walker, its slots out of the cache
pub cache_replace : (walker cache : List ℕ) (k w : ℕ) → key_of w ≡ k → CacheGood walker cache → CacheGood (put key_of walker k w) (erase address_of cache k)
unfolding erase
cache_replace walker cache k w e g =
    cache_put walker (wipe (has_key address_of k) cache) (cache_wipe walker cache g (has_key address_of k)) k w e
    (λ u h q. eqb-false (address_of u) k (has_wipe_inv (has_key address_of k) cache u h).1 (sym q))

-- an entry out of the walker, its slots out of the cache
pub cache_erase : (walker cache : List ℕ) (k : ℕ) → Distinct key_of walker → CacheGood walker cache → CacheGood (erase key_of walker k) (erase address_of cache k)
unfolding erase
cache_erase walker cache k d g = cache_wipe_both walker cache g (has_key key_of k) (has_key address_of k) (λ w. ap (λ (n : ℕ). eqb n k) (unported_key w)) d

-- ---- the slot that a fill makes of the walker's entry
module _ (walker : List ℕ) (port vm guest : ℕ) (p : port < PORTS) (v : vm < VMS) (h : guest < GUEST_PAGES) where
  slot_of : (w : ℕ) → lookup key_of walker (key vm guest) ≡ w → key_of w ≡ key vm guest → SlotGood walker (slot_word port vm guest (entry_of w))
  slot_of w e q =
      let f : WordFits vm guest (entry_of w) = record { vm_fits = omega arith; guest_fits = h; low_fits = omega arith } in
      let filled : filled_of (entry_of w) ≡ 1 = omega arith in
      record {
        port = rw (word_port port f) p;
        filled = word_filled port f ∙ filled;
        entry = ap (lookup key_of walker) (word_address port f filled) ∙ e ∙ sym (key_whole 0 vm guest w (omega arith)) ∙ rw (word_vm port f, word_guest port f, word_entry port f);
      }

  pub slot_made : (lookup key_of walker (key vm guest) ≡ 0 → ⊥) → SlotGood walker (slot_word port vm guest (entry_of (lookup key_of walker (key vm guest))))
  slot_made n = slot_of (lookup key_of walker (key vm guest)) refl (lookup_has key_of walker (key vm guest) n).1

-- ---- hand and ports
pub next_hand_lem : (hand : ℕ) → next_hand hand < SLOTS
next_hand_lem hand = ⊎_elim (λ t. rw t (ltb-true (hand + 1) SLOTS t)) (λ f. rw f (omega arith)) (cases (ltb (hand + 1) SLOTS))

pub ports_set : (known : ℕ) (ports : List ℕ) (port n : ℕ) → length ports ≡ PORTS → port < PORTS → (n ≡ IDLE) ⊎ (knows known n ≡ true) → PortsGood known ports → PortsGood known (set ports port n)
ports_set known ports port n l h good g q b =
    ⊎_elim (λ e. rw (e, get_or-set_same ports port n IDLE (omega arith)) good) (λ e. rw (get_or-set_other ports port q n IDLE e) (g q b)) (equal q port)
