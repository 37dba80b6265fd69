-- What the machine looks up is exactly what the tables show, in valid tables.
use Prim.{Unit, tt}
use Prim.Native.Nat.{ℕ, ◌≤◌, ◌<◌, min, max}
use mathlib.Core.Bool.{Bool, true, false, ◌&&◌, true≢false}
use mathlib.Core.List.{List}
use mathlib.Core.Logic.{◌⊎◌, inl, inr, ⊎_elim}
use mathlib.Core.Path.{◌≡◌, refl, sym, ap, ◌∙◌}
use native.Mathlib.Omega.{arith}
use lib.Dec.{eqb, leb}
use lib.ListN.{length, get_or}
use borrow.Author.Tests.{eqb-true, eq-eqb, leb-true, leb-false}
use Rattle.numbers.specs.CaseLaws.{cases}
use Rattle.numbers.specs.Limits.{VMS, GUEST_PAGES, PAGES, PORTS, IDLE}
use Rattle.numbers.specs.Decides.{Decides}
use Rattle.numbers.specs.DecidesLaws.{says_yes, says_no, always, decides_as, decides_itself, decides_equal, decides_not, decides_and, decides_or}
use Rattle.numbers.specs.Packing.{port_of, vm_of, guest_of, filled_of, page_of, access_of, generation_of, left_of, right_of, entry_of, entry, map_word, slot_word, slot_key, key, key_of, pair_key, pair_key_of}
use Rattle.numbers.specs.PackingLaws.{entry_whole, word_key, word_whole, key_same, key_filled, pair_same, pair_either, parts_fit}
use Rattle.numbers.specs.declared.Side.{Side}
use Rattle.numbers.specs.declared.Side.TheVariants.{Cpu, Dma}
use Rattle.table.specs.ScanLaws.{any_at, any_here, some_word, some_below}
use Rattle.table.specs.Table.{Has, find, place, lookup, is_found, or_else, lowest_free, free_entries}
use Rattle.table.specs.TableLaws.{find_at, find_none, has_lookup, lookup_has, free_place, place_free}
use Rattle.std.specs.Prelude.{Option, Some, None}
use Rattle.model.specs.MemoryLaws.{get_or-there}
use Rattle.model.specs.State.{Tables}
use Rattle.model.specs.Views.{claims, claimed_elsewhere, has_pages, on_page, of_vm, joins, is_filled, shares, edge_on, edge_of, paired, targeted, has_mappings, may_map, on_port, whichever}
use Rattle.model.specs.Valid.{ValidTables, PairGood, MapGood}
use Rattle.model.specs.Conditions.{Edge, Maps, Mapped, Targets, MayMap}

-- ---- page sets
pub claimed_exact : (side : Side) (sets : List ℕ) (vm page : ℕ) →
    Decides (claimed_elsewhere side sets vm page) ((other : ℕ) × (other < VMS) × ((other ≡ vm → ⊥) × (claims side sets other page ≡ true)))
unfolding claimed_elsewhere
claimed_exact side sets vm page =
    some_below _ (λ other. (other ≡ vm → ⊥) × (claims side sets other page ≡ true)) VMS (λ other h. decides_and (decides_not (decides_equal other vm)) (decides_itself (claims side sets other page)))

pub pages_exact : (side : Side) (sets : List ℕ) (vm : ℕ) → Decides (has_pages side sets vm) ((page : ℕ) × (page < PAGES) × (claims side sets vm page ≡ true))
unfolding has_pages
pages_exact side sets vm = some_below _ (λ page. claims side sets vm page ≡ true) PAGES (λ page h. decides_itself (claims side sets vm page))

-- ---- a key that is found
found_exact : (keys : ℕ → ℕ) (ws : List ℕ) (k : ℕ) → Decides (is_found (find keys ws k)) ((i : ℕ) × (i < length ws) × (keys (get_or ws i 0) ≡ k))
found_exact keys ws k = go (find keys ws k) refl
  where
    go : (f : Option ℕ) → find keys ws k ≡ f → Decides (is_found f) ((i : ℕ) × (i < length ws) × (keys (get_or ws i 0) ≡ k))
    go (Some i) e = let r = find_at keys ws k i e in says_yes (i, r.within, eqb-true _ _ r.passes)
    go None e = says_no (λ p. find_none keys ws k e p.0 p.1 p.2)

-- where no empty word has the key, it is a filled word that has it
pub key_exact : (keys : ℕ → ℕ) (ws : List ℕ) (k : ℕ) → (keys 0 ≡ k → ⊥) → Decides (is_found (find keys ws k)) ((w : ℕ) × Has ws w × (keys w ≡ k))
key_exact keys ws k n =
    decides_as (found_exact keys ws k)
    (λ p. (get_or ws p.0 0, record { spot = p.0; within = p.1; holds = refl; filled = λ z. n (rw z at p.2) }, p.2))
    (λ p. (p.1.spot, p.1.within, rw p.1.holds p.2))

-- a key has a place where it stands already or some place is empty
pub place_exact : (keys : ℕ → ℕ) (ws : List ℕ) (k : ℕ) → Decides (is_found (place keys ws k)) ((is_found (find keys ws k) ≡ true) ⊎ (0 < free_entries ws))
unfolding place
place_exact keys ws k = go (find keys ws k) (lowest_free ws) refl
  where
    go : (f g : Option ℕ) → lowest_free ws ≡ g → Decides (is_found (or_else f g)) ((is_found f ≡ true) ⊎ (0 < free_entries ws))
    go (Some i) g e = says_yes (inl refl)
    go None (Some i) e = says_yes (inr (place_free ws i e))
    go None None e = says_no (⊎_elim (λ t. true≢false (sym t)) nowhere)
      where
        nowhere : 0 < free_entries ws → ⊥
        nowhere h = let (i, q) = free_place ws h in let z : Some i ≡ None = sym q ∙ e in true≢false (ap is_found z)

-- ---- words of valid tables are filled as the machine wants them
pub filled_too : (w : ℕ) {b : Bool} {P : Type 0} → filled_of w ≡ 1 → Decides b P → Decides (is_filled w && b) P
filled_too w f d = rw (eq-eqb (filled_of w) 1 f) d

-- two numbers with the same least and greatest, in whichever order
either_order : (a b c d : ℕ) → min a b ≡ min c d → max a b ≡ max c d → ((a ≡ c) × (b ≡ d)) ⊎ ((a ≡ d) × (b ≡ c))
either_order a b c d l g = ⊎_elim (λ t. pick (leb-true a b t) (cases (leb c d))) (λ f. flip (leb-false a b f) (cases (leb c d))) (cases (leb a b))
  where
    pick : a ≤ b → (leb c d ≡ true) ⊎ (leb c d ≡ false) → ((a ≡ c) × (b ≡ d)) ⊎ ((a ≡ d) × (b ≡ c))
    pick h = ⊎_elim (λ t. let k = leb-true c d t in inl (omega arith, omega arith)) (λ f. let k = leb-false c d f in inr (omega arith, omega arith))

    flip : b < a → (leb c d ≡ true) ⊎ (leb c d ≡ false) → ((a ≡ c) × (b ≡ d)) ⊎ ((a ≡ d) × (b ≡ c))
    flip h = ⊎_elim (λ t. let k = leb-true c d t in inr (omega arith, omega arith)) (λ f. let k = leb-false c d f in inl (omega arith, omega arith))

-- ---- mappings
-- a map's filled word has the key of its VM and guest page
pub map-key : (w : ℕ) → port_of w ≡ 0 → filled_of w ≡ 1 → key_of w ≡ key (vm_of w) (guest_of w)
map-key w p f =
    let e : key_of (slot_word 0 (vm_of w) (guest_of w) (entry_of w)) ≡ slot_key 0 (vm_of w) (guest_of w) = word_key 0 (parts_fit w) (omega arith) in
    let z = rw p at (word_whole w) in
    sym (ap key_of z) ∙ e ∙ omega arith

-- a filled word of a table, as a mapping
pub mapping : {table : List ℕ} (w : ℕ) → Has table w → Maps table (vm_of w) (guest_of w) (page_of w) (access_of w) (generation_of w)
mapping w h = record { word = w; stored = h; vm_is = refl; guest_is = refl; page_is = refl; access_is = refl; generation_is = refl }

-- in any good table, a side's software map as its walker's
module _ {side : Side} {pages known : ℕ} {sets pairs table : List ℕ} (g : MapGood side pages known sets pairs table) where
  -- a mapping is one whole word
  pub whole : (vm guest page access generation : ℕ) (m : Maps table vm guest page access generation) → map_word vm guest (entry page access generation) ≡ m.word
  whole vm guest page access generation m =
      let r = g.each m.word m.stored in
      rw (← m.vm_is, ← m.guest_is, ← m.page_is, ← m.access_is, ← m.generation_is, entry_whole m.word r.filled) (rw r.port at (word_whole m.word))

  -- a mapping of a guest page is a word of its key
  keyed_mapped : (vm guest : ℕ) → guest < GUEST_PAGES → (w : ℕ) × Has table w × (key_of w ≡ key vm guest) → Mapped table vm guest
  keyed_mapped vm guest l (w, h, e) =
      let r = g.each w h in
      let s = key_same (vm_of w) (guest_of w) vm guest (omega arith) l (sym (map-key w r.port r.filled) ∙ e) in
      record { page = page_of w; access = access_of w; generation = generation_of w; mapping = rw (s.0, s.1) at (mapping w h) }

  mapped_keyed : (vm guest page access generation : ℕ) (m : Maps table vm guest page access generation) → key_of m.word ≡ key vm guest
  mapped_keyed vm guest page access generation m =
      let r = g.each m.word m.stored in
      map-key m.word r.port r.filled ∙ rw (m.vm_is, m.guest_is)

  pub mapped_exact : (vm guest : ℕ) → guest < GUEST_PAGES → Decides (is_found (find key_of table (key vm guest))) (Mapped table vm guest)
  mapped_exact vm guest l =
      decides_as (key_exact key_of table (key vm guest) (λ e. omega arith)) (keyed_mapped vm guest l)
      (λ m. (m.mapping.word, m.mapping.stored, mapped_keyed vm guest _ _ _ m.mapping))

  -- a guest page for which a word is looked up is mapped, and the word is its mapping's
  pub lookup_mapped : (vm guest : ℕ) → guest < GUEST_PAGES → (lookup key_of table (key vm guest) ≡ 0 → ⊥) → Mapped table vm guest
  lookup_mapped vm guest l n = let (h, e) = lookup_has key_of table (key vm guest) n in keyed_mapped vm guest l (_, h, e)

  pub mapped_lookup : (vm guest page access generation : ℕ) (m : Maps table vm guest page access generation) → lookup key_of table (key vm guest) ≡ m.word
  mapped_lookup vm guest page access generation m =
      let e = mapped_keyed vm guest page access generation m in
      rw (← e) (has_lookup key_of table m.word g.once m.stored (key_filled m.word (g.each m.word m.stored).filled))

  -- some mapping of the VM
  pub mappings_exact : (vm : ℕ) → Decides (has_mappings table vm) ((guest : ℕ) × Mapped table vm guest)
  unfolding has_mappings
  mappings_exact vm =
      decides_as (some_word (of_vm vm) (λ w. vm_of w ≡ vm) table refl (λ w h. filled_too w (g.each w h).filled (decides_equal (vm_of w) vm)))
      (λ (w, h, e). (guest_of w, record { page = page_of w; access = access_of w; generation = generation_of w; mapping = rw e at (mapping w h) }))
      (λ (guest, m). (m.mapping.word, m.mapping.stored, m.mapping.vm_is))

  -- some mapping that counts onto the page
  pub targets_exact : (counts : ℕ → Bool) (C : ℕ → Type 0) (page : ℕ) → ((w : ℕ) → Has table w → Decides (counts w) (C w)) →
      Decides (targeted counts table page) ((w : ℕ) × Has table w × (C w × (page_of w ≡ page)))
  unfolding targeted
  targets_exact counts C page d =
      some_word _ (λ w. C w × (page_of w ≡ page)) table (none (counts 0)) (λ w h. decides_and (d w h) (filled_too w (g.each w h).filled (decides_equal (page_of w) page)))
    where
      none : (b : Bool) → (b && false) ≡ false
      none true = refl
      none false = refl

  -- some mapping onto the page; one of this VM
  pub target_exact : (page : ℕ) → Decides (targeted whichever table page) ((mapper : ℕ) × Targets table mapper page)
  target_exact page =
      decides_as (targets_exact whichever (λ w. Unit {0}) page (λ w h. always))
      (λ (w, h, e). (vm_of w, record { guest = guest_of w; access = access_of w; generation = generation_of w; mapping = rw e.1 at (mapping w h) }))
      (λ (mapper, m). (m.mapping.word, m.mapping.stored, (tt, m.mapping.page_is)))

  pub targets_of_exact : (vm page : ℕ) → Decides (targeted (of_vm vm) table page) (Targets table vm page)
  targets_of_exact vm page =
      decides_as (targets_exact (of_vm vm) (λ w. vm_of w ≡ vm) page (λ w h. filled_too w (g.each w h).filled (decides_equal (vm_of w) vm)))
      (λ (w, h, e). record { guest = guest_of w; access = access_of w; generation = generation_of w; mapping = rw (e.0, e.1) at (mapping w h) })
      (λ m. (m.mapping.word, m.mapping.stored, (m.mapping.vm_is, m.mapping.page_is)))

-- ---- pairs of valid tables
module _ (t : Tables) (v : ValidTables t) where
  good_pair : (w : ℕ) → Has t.pairs w → PairGood t.setup.pages t.known t.sets w
  good_pair w h = v.pairs.each w h

  edge : (w : ℕ) → Has t.pairs w → Edge t (left_of w) (right_of w) (page_of w)
  edge w h = record { pair = w; stored = h; ends = inl (refl, refl); on = refl }

  turned : {left right page : ℕ} → Edge t left right page → Edge t right left page
  turned e = record { pair = e.pair; stored = e.stored; ends = ⊎_elim inr inl e.ends; on = e.on }

  pub edge_on_exact : (page : ℕ) → Decides (edge_on t.pairs page) ((left : ℕ) × (right : ℕ) × Edge t left right page)
  unfolding edge_on
  edge_on_exact page =
      decides_as (some_word (on_page page) (λ w. page_of w ≡ page) t.pairs refl (λ w h. filled_too w (good_pair w h).filled (decides_equal (page_of w) page)))
      (λ (w, h, e). (left_of w, right_of w, rw e at (edge w h)))
      (λ (left, right, e). (e.pair, e.stored, e.on))

  -- a pair with the VM at one of its ends, read from there
  joins_exact : (vm w : ℕ) → Has t.pairs w → Decides (joins vm w) ((left_of w ≡ vm) ⊎ (right_of w ≡ vm))
  joins_exact vm w h = filled_too w (good_pair w h).filled (decides_or (decides_equal (left_of w) vm) (decides_equal (right_of w) vm))

  from_end : (vm w : ℕ) → Has t.pairs w → (left_of w ≡ vm) ⊎ (right_of w ≡ vm) → (other : ℕ) × Edge t vm other (page_of w)
  from_end vm w h = ⊎_elim (λ l. (right_of w, rw l at (edge w h))) (λ r. (left_of w, rw r at (turned (edge w h))))

  to_end : {vm other page : ℕ} (e : Edge t vm other page) → (left_of e.pair ≡ vm) ⊎ (right_of e.pair ≡ vm)
  to_end e = ⊎_elim (λ a. inl a.0) (λ a. inr a.1) e.ends

  pub edge_of_exact : (vm : ℕ) → Decides (edge_of t.pairs vm) ((other : ℕ) × (page : ℕ) × Edge t vm other page)
  unfolding edge_of
  edge_of_exact vm =
      decides_as (some_word (joins vm) (λ w. (left_of w ≡ vm) ⊎ (right_of w ≡ vm)) t.pairs refl (joins_exact vm))
      (λ (w, h, e). let (other, x) = from_end vm w h e in (other, page_of w, x))
      (λ (other, page, e). (e.pair, e.stored, to_end e))

  pub shares_exact : (vm page : ℕ) → Decides (shares t.pairs vm page) ((other : ℕ) × Edge t vm other page)
  unfolding shares
  shares_exact vm page =
      decides_as
      (some_word _ (λ w. ((left_of w ≡ vm) ⊎ (right_of w ≡ vm)) × (page_of w ≡ page)) t.pairs refl
      (λ w h. decides_and (joins_exact vm w h) (filled_too w (good_pair w h).filled (decides_equal (page_of w) page))))
      (λ (w, h, e). rw e.1 at (from_end vm w h e.0))
      (λ (other, e). (e.pair, e.stored, (to_end e, e.on)))

  pub paired_exact : (left right page : ℕ) → left < VMS → right < VMS → page < PAGES → Decides (paired t.pairs left right page) (Edge t left right page)
  unfolding paired
  paired_exact left right page l r p = decides_as (key_exact pair_key_of t.pairs (pair_key left right page) (λ e. omega arith)) to fro
    where
      to : (w : ℕ) × Has t.pairs w × (pair_key_of w ≡ pair_key left right page) → Edge t left right page
      to (w, h, e) =
          let q : pair_key (left_of w) (right_of w) (page_of w) ≡ pair_key left right page = rw (good_pair w h).filled at e in
          let s = pair_same (left_of w) (right_of w) (page_of w) left right page (omega arith) (omega arith) (omega arith) (omega arith) (omega arith) (omega arith) q in
          record { pair = w; stored = h; ends = either_order (left_of w) (right_of w) left right s.1 s.2; on = s.0 }

      fro : Edge t left right page → (w : ℕ) × Has t.pairs w × (pair_key_of w ≡ pair_key left right page)
      fro e =
          let k : pair_key_of e.pair ≡ pair_key (left_of e.pair) (right_of e.pair) (page_of e.pair) = rw (good_pair e.pair e.stored).filled in
          (e.pair, e.stored, k ∙ ⊎_elim (λ a. rw (a.0, a.1, e.on)) (λ a. rw (a.0, a.1, e.on) (pair_either right left page)) e.ends)

  -- ---- what a VM may map
  pub may_exact : (side : Side) (vm page : ℕ) → Decides (may_map side t.sets t.pairs vm page) (MayMap side t vm page)
  unfolding may_map
  may_exact Cpu vm page = decides_or (decides_itself _) (shares_exact vm page)
  may_exact Dma vm page = decides_or (decides_itself _) (decides_itself _)

-- ---- ports
pub port_exact : (ports : List ℕ) (vm : ℕ) → length ports ≡ PORTS → Decides (on_port ports vm) ((port : ℕ) × (port < PORTS) × (get_or ports port IDLE ≡ vm))
unfolding on_port
port_exact ports vm l =
    record {
      sound = λ e. let (i, h, q) = any_at (eqb vm) ports e in (i, rw l at h, get_or-there ports i IDLE 0 h ∙ sym (eqb-true vm _ q));
      complete = λ (i, h, q). let b = rw (← l) at h in any_here (eqb vm) ports i b (eq-eqb vm _ (sym (get_or-there ports i 0 IDLE b ∙ q)));
    }
