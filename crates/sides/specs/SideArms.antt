-- What each operation of a side leaves, list by list: a list that an accepted operation replaces is `kept` by a refused one.
use Rattle.std.specs.Prelude.{ℕ, Bool, List, [], ◌∷◌, ◌≡◌, Ok, Err, Option}
use Rattle.std.proofs.Math.Path.{refl}
use Rattle.numbers.specs.Limits.{READ, WRITE}
use Rattle.numbers.specs.Meaning.{Answer}
use Rattle.numbers.specs.declared.Region.{Region}
use Rattle.numbers.specs.declared.Side.{Side}
use Rattle.numbers.specs.declared.SideOperation.TheVariants.{MapPage, UnmapPage, InsertRegion, RemoveRegion, GivePort, FillSlot, EmptySlot, ReadWord, WriteWord}
use Rattle.numbers.specs.declared.VmId.{VmId}
use Rattle.numbers.specs.declared.GuestPage.{GuestPage}
use Rattle.numbers.specs.declared.PhysPage.{PhysPage}
use Rattle.model.specs.State.{with_maps, with_cache, with_ports}
use Rattle.model.specs.Effect.{Place, Store, reads, writes, clears, quiet, kept, apply, cleared_pages}
use Rattle.model.specs.Maps.{map_answer, map_table, unmap_answer, unmap_table, without_slots}
use Rattle.model.specs.Regions.{insert_answer, insert_sets, insert_table, remove_answer, remove_sets, remove_table, remove_clears}
use Rattle.model.specs.Ports.{port_answer, port_ports, vm_on, fill_answer, fill_cache, fill_hand, empty_answer, empty_cache}
use Rattle.model.specs.Access.{access_answer, access_place}
use Rattle.model.specs.Step.{answer_with}
use Rattle.sides.specs.Sides.{Sight, sight, side_stepped, side_decided, side_step}

-- ---- equal parts make equal steps
pub side_same :
    {a a' : Answer} {sets sets' map map' walker walker' cache cache' : List ℕ} {hand hand' : ℕ} {ports ports' memory memory' : List ℕ} →
    a ≡ a' → sets ≡ sets' → map ≡ map' → walker ≡ walker' → cache ≡ cache' → hand ≡ hand' → ports ≡ ports' → memory ≡ memory' →
    side_stepped a (sight sets map walker cache hand ports memory) ≡ side_stepped a' (sight sets' map' walker' cache' hand' ports' memory')
side_same p q r s t u v w = λ i. side_stepped (p i) (sight (q i) (r i) (s i) (t i) (u i) (v i) (w i))

module _ (sets map walker cache : List ℕ) (hand : ℕ) (ports memory : List ℕ) where
  abbrev before : Sight
  before = sight sets map walker cache hand ports memory

  -- ---- for any answer: what changes, by the lists that do
  maps_change :
      (a : Answer) (map' walker' cache' : List ℕ) →
      side_stepped a (sight sets (kept a map map') (kept a walker walker') (kept a cache cache') hand ports memory)
      ≡ side_decided before a sets (with_maps before.route map' walker' cache') quiet
  unfolding apply cleared_pages
  maps_change (Ok ok) map' walker' cache' = refl
  maps_change (Err err) map' walker' cache' = refl

  -- an accepted insertion keeps the cache as well
  insert_change :
      (a : Answer) (sets' map' walker' : List ℕ) →
      side_stepped a (sight (kept a sets sets') (kept a map map') (kept a walker walker') cache hand ports memory)
      ≡ side_decided before a sets' (with_maps before.route map' walker' cache) quiet
  unfolding apply cleared_pages
  insert_change (Ok ok) sets' map' walker' = refl
  insert_change (Err err) sets' map' walker' = refl

  remove_change :
      (a : Answer) (sets' map' walker' cache' pages : List ℕ) →
      side_stepped a (sight (kept a sets sets') (kept a map map') (kept a walker walker') (kept a cache cache') hand ports (apply (kept a quiet (clears pages)) memory))
      ≡ side_decided before a sets' (with_maps before.route map' walker' cache') (clears pages)
  remove_change (Ok ok) sets' map' walker' cache' pages = refl
  remove_change (Err err) sets' map' walker' cache' pages = refl

  ports_change : (a : Answer) (ports' : List ℕ) → side_stepped a (sight sets map walker cache hand (kept a ports ports') memory) ≡ side_decided before a sets (with_ports before.route ports') quiet
  unfolding apply cleared_pages
  ports_change (Ok ok) ports' = refl
  ports_change (Err err) ports' = refl

  fill_change :
      (a : Answer) (cache' : List ℕ) (hand' : ℕ) →
      side_stepped a (sight sets map walker (kept a cache cache') (kept a hand hand') ports memory) ≡ side_decided before a sets (with_cache before.route cache' hand') quiet
  unfolding apply cleared_pages
  fill_change (Ok ok) cache' hand' = refl
  fill_change (Err err) cache' hand' = refl

  -- a hand that stays
  empty_change : (a : Answer) (cache' : List ℕ) → side_stepped a (sight sets map walker (kept a cache cache') hand ports memory) ≡ side_decided before a sets (with_cache before.route cache' hand) quiet
  unfolding apply cleared_pages
  empty_change (Ok ok) cache' = refl
  empty_change (Err err) cache' = refl

  -- an access changes no table
  read_change :
      (a : Answer) (vm : ℕ) (places : List Place) →
      side_stepped (answer_with (kept a quiet (reads vm places)) memory a) before ≡ side_decided before a sets before.route (reads vm places)
  unfolding apply cleared_pages
  read_change (Ok ok) vm places = refl
  read_change (Err err) vm places = refl

  write_change :
      (a : Answer) (vm : ℕ) (stores : List Store) →
      side_stepped a (sight sets map walker cache hand ports (apply (kept a quiet (writes vm stores)) memory)) ≡ side_decided before a sets before.route (writes vm stores)
  write_change (Ok ok) vm stores = refl
  write_change (Err err) vm stores = refl

  -- ---- each operation
  module _ (side : Side) (pages : ℕ) (unit : Bool) (known : ℕ) (pairs : List ℕ) where
    pub map-arm :
        (vm : VmId) (guest : GuestPage) (page : PhysPage) (access generation : ℕ) → let a = map_answer side known pages sets pairs map cache vm.0 guest.0 page.0 access generation in
        side_stepped a (sight sets (kept a map (map_table map vm.0 guest.0 page.0 access generation)) (kept a walker (map_table walker vm.0 guest.0 page.0 access generation)) (kept a cache (without_slots cache vm.0 guest.0)) hand ports memory)
        ≡ side_step side pages unit known pairs before (MapPage vm guest page access generation)
    unfolding side_step
    map-arm vm guest page access generation = maps_change _ _ _ _

    pub unmap_arm :
        (vm : VmId) (guest : GuestPage) → let a = unmap_answer known map cache vm.0 guest.0 in
        side_stepped a (sight sets (kept a map (unmap_table map vm.0 guest.0)) (kept a walker (unmap_table walker vm.0 guest.0)) (kept a cache (without_slots cache vm.0 guest.0)) hand ports memory)
        ≡ side_step side pages unit known pairs before (UnmapPage vm guest)
    unfolding side_step
    unmap_arm vm guest = maps_change _ _ _ _

    pub insert_arm :
        (region : Region) → let a = insert_answer side known pages unit sets map region in
        side_stepped a (sight (kept a sets (insert_sets side sets region)) (kept a map (insert_table map region)) (kept a walker (insert_table walker region)) cache hand ports memory)
        ≡ side_step side pages unit known pairs before (InsertRegion region)
    unfolding side_step
    insert_arm region = insert_change _ _ _ _

    pub remove_arm :
        (region : Region) → let a = remove_answer side known pages unit sets pairs map cache region in
        side_stepped a (sight (kept a sets (remove_sets side sets region)) (kept a map (remove_table map region)) (kept a walker (remove_table walker region)) (kept a cache (remove_table cache region)) hand ports (apply (kept a quiet (clears (remove_clears side sets region))) memory))
        ≡ side_step side pages unit known pairs before (RemoveRegion region)
    unfolding side_step
    remove_arm region = remove_change _ _ _ _ _ _

    pub give_arm :
        (port : ℕ) (target : Option VmId) → let a = port_answer known port target in
        side_stepped a (sight sets map walker cache hand (kept a ports (port_ports ports port target)) memory) ≡ side_step side pages unit known pairs before (GivePort port target)
    unfolding side_step
    give_arm port target = ports_change _ _

    pub fill_arm :
        (port : ℕ) (guest : GuestPage) → let a = fill_answer ports walker port guest.0 in
        side_stepped a (sight sets map walker (kept a cache (fill_cache cache hand ports walker port guest.0)) (kept a hand (fill_hand cache hand ports port guest.0)) ports memory)
        ≡ side_step side pages unit known pairs before (FillSlot port guest)
    unfolding side_step
    fill_arm port guest = fill_change _ _ _

    pub empty_arm :
        (slot : ℕ) → let a = empty_answer slot in
        side_stepped a (sight sets map walker (kept a cache (empty_cache cache slot)) hand ports memory) ≡ side_step side pages unit known pairs before (EmptySlot slot)
    unfolding side_step
    empty_arm slot = empty_change _ _

    pub read_arm :
        (port : ℕ) (guest : GuestPage) (word : ℕ) → let a = access_answer ports cache walker READ port guest.0 word in
        side_stepped (answer_with (kept a quiet (reads (vm_on ports port) (access_place ports cache walker port guest.0 word ∷ []))) memory a) before
        ≡ side_step side pages unit known pairs before (ReadWord port guest word)
    unfolding side_step
    read_arm port guest word = read_change (access_answer ports cache walker READ port guest.0 word) _ _

    pub write_arm :
        (port : ℕ) (guest : GuestPage) (word value : ℕ) → let a = access_answer ports cache walker WRITE port guest.0 word in
        side_stepped a (sight sets map walker cache hand ports (apply (kept a quiet (writes (vm_on ports port) (record { place = access_place ports cache walker port guest.0 word; value = value } ∷ []))) memory))
        ≡ side_step side pages unit known pairs before (WriteWord port guest word value)
    unfolding side_step
    write_arm port guest word value = write_change _ _ _
