-- What an accepted operation leaves has the setup and the lengths of what was there (of every operation: proofs/StepShape).
use Rattle.std.specs.Prelude.{ℕ, zero, suc, Bool, true, false, ◌≡◌, Option, Some, None}
use mathlib.Core.List.{List}
use Rattle.std.proofs.Math.Path.{refl}
use Rattle.std.proofs.Common.{◌∙◌, length-set}
use Rattle.std.proofs.Math.ListN.{length}
use Rattle.std.specs.Prelude.{if◌then◌else◌}
use Rattle.numbers.specs.Packing.{key_of, address_of, entry_of, pair_key_of, pair_key, pair_word, key, slot_key, slot_word}
use Rattle.numbers.specs.declared.Side.{Side}
use Rattle.numbers.specs.declared.Side.TheVariants.{Cpu, Dma}
use Rattle.numbers.specs.declared.VmId.{VmId}
use Rattle.numbers.specs.declared.SideOperation.{SideOperation}
use Rattle.numbers.specs.declared.SideOperation.TheVariants as sided
use Rattle.numbers.specs.declared.Operation.{Operation}
use Rattle.numbers.specs.declared.Operation.TheVariants as op
use Rattle.table.specs.Scan.{repeat}
use Rattle.table.specs.ScanLaws.{length-wipe}
use Rattle.table.specs.Table.{put, erase, set_at, has_key, lookup}
use Rattle.table.specs.TableLaws.{length-put}
use Rattle.pages.specs.Pour.{pour}
use Rattle.pages.specs.PourLaws.{length-pour, length-emptied}
use Rattle.pages.specs.RowLaws.{length-add, length-remove}
use Rattle.pages.specs.Rows.{remove, pool_row, cpu_row, dma_row}
use Rattle.numbers.specs.declared.Region.{Region}
use Rattle.model.specs.State.{Tables, Route, State, route, with_side, with_known, with_sets, with_pairs, with_cache, with_ports}
use Rattle.model.specs.Views.{joins, paired}
use Rattle.model.specs.Ledger.{assign_sets, reclaim_sets, share_pairs, unshare_pairs}
use Rattle.model.specs.Maps.{map_table, unmap_table, without_slots}
use Rattle.model.specs.Regions.{insert_page, insert_sets, insert_table, remove_page, remove_sets, remove_table, in_region, key_in, region_entry, page_in}
use Rattle.model.specs.Ports.{port_ports, empty_cache, fill_cache, fill_place, vm_on}
use Rattle.model.specs.Retire.{goes, retire_table, retire_pairs, retire_sets, retire_route}
use Rattle.model.specs.Step.{map_route, unmap_route, insert_route, remove_route, fill_route, side_route, side_sets, next_of}

-- ---- one shape
pub record SameRoute (r r' : Route) : Type 0 where
  pub map : length r'.map ≡ length r.map
  pub walker : length r'.walker ≡ length r.walker
  pub cache : length r'.cache ≡ length r.cache
  pub ports : length r'.ports ≡ length r.ports

pub record SameShape (t t' : Tables) : Type 0 where
  pub setup : t'.setup ≡ t.setup
  pub sets : length t'.sets ≡ length t.sets
  pub pairs : length t'.pairs ≡ length t.pairs
  pub cpu : SameRoute t.cpu t'.cpu
  pub dma : SameRoute t.dma t'.dma

same_route : (r : Route) → SameRoute r r
same_route r = record { map = refl; walker = refl; cache = refl; ports = refl }

pub same_shape : (t : Tables) → SameShape t t
same_shape t = record { setup = refl; sets = refl; pairs = refl; cpu = same_route t.cpu; dma = same_route t.dma }

-- ---- a part replaced by one of its length
known_shape : (t : Tables) (known : ℕ) → SameShape t (with_known t known)
known_shape t known = record { setup = refl; sets = refl; pairs = refl; cpu = same_route t.cpu; dma = same_route t.dma }

sets_shape : (t : Tables) (sets : List ℕ) → length sets ≡ length t.sets → SameShape t (with_sets t sets)
sets_shape t sets e = record { setup = refl; sets = e; pairs = refl; cpu = same_route t.cpu; dma = same_route t.dma }

pairs_shape : (t : Tables) (pairs : List ℕ) → length pairs ≡ length t.pairs → SameShape t (with_pairs t pairs)
pairs_shape t pairs e = record { setup = refl; sets = refl; pairs = e; cpu = same_route t.cpu; dma = same_route t.dma }

side_shape : (side : Side) (t : Tables) (r : Route) (sets : List ℕ) → SameRoute (route side t) r → length sets ≡ length t.sets → SameShape t (with_side side t r sets)
side_shape Cpu t r sets s e = record { setup = refl; sets = e; pairs = refl; cpu = s; dma = same_route t.dma }
side_shape Dma t r sets s e = record { setup = refl; sets = e; pairs = refl; cpu = same_route t.cpu; dma = s }

-- ---- lengths of what operations leave
length-repeat : (f : ℕ → List ℕ → List ℕ) → ((k : ℕ) (ws : List ℕ) → length (f k ws) ≡ length ws) → (i n : ℕ) (ws : List ℕ) → length (repeat f i n ws) ≡ length ws
length-repeat f h i zero ws = refl
length-repeat f h i (suc n) ws = length-repeat f h (suc i) n (f i ws) ∙ h i ws

pub length-set_at : (ws : List ℕ) (f : Option ℕ) (w : ℕ) → length (set_at ws f w) ≡ length ws
length-set_at ws (Some i) w = length-set ws i w
length-set_at ws None w = refl

length-erase : (key_of : ℕ → ℕ) (ws : List ℕ) (k : ℕ) → length (erase key_of ws k) ≡ length ws
unfolding erase
length-erase key_of ws k = length-wipe (has_key key_of k) ws

pub length-assign : (sets : List ℕ) (vm page : ℕ) → length (assign_sets sets vm page) ≡ length sets
unfolding assign_sets
length-assign sets vm page = length-add (remove sets pool_row page) (cpu_row vm) page ∙ length-remove sets pool_row page

pub length-reclaim : (sets : List ℕ) (vm page : ℕ) → length (reclaim_sets sets vm page) ≡ length sets
unfolding reclaim_sets
length-reclaim sets vm page = length-add (remove sets (cpu_row vm) page) pool_row page ∙ length-remove sets (cpu_row vm) page

length-share : (pairs : List ℕ) (left right page : ℕ) (t : Bool) → length (if t then pairs else put pair_key_of pairs (pair_key left right page) (pair_word left right page)) ≡ length pairs
length-share pairs left right page true = refl
length-share pairs left right page false = length-put pair_key_of pairs (pair_key left right page) (pair_word left right page)

length-insert_page : (side : Side) (vm page : ℕ) (sets : List ℕ) → length (insert_page side vm page sets) ≡ length sets
length-insert_page Cpu vm page sets = length-assign sets vm page
length-insert_page Dma vm page sets = length-add sets (dma_row vm) page

length-remove_page : (side : Side) (vm page : ℕ) (sets : List ℕ) → length (remove_page side vm page sets) ≡ length sets
length-remove_page Cpu vm page sets = length-reclaim sets vm page
length-remove_page Dma vm page sets = length-remove sets (dma_row vm) page

length-fill : (cache : List ℕ) (hand : ℕ) (ports walker : List ℕ) (port guest : ℕ) → length (fill_cache cache hand ports walker port guest) ≡ length cache
unfolding fill_cache
length-fill cache hand ports walker port guest =
    length-set_at cache (fill_place cache hand (slot_key port (vm_on ports port) guest)) (slot_word port (vm_on ports port) guest (entry_of (lookup key_of walker (key (vm_on ports port) guest))))

pub length-retire : (sets : List ℕ) (vm : ℕ) → length (retire_sets sets vm) ≡ length sets
unfolding retire_sets
length-retire sets vm = length-emptied (pour sets _ _) _ ∙ length-pour sets _ _

length-retire_pairs : (pairs : List ℕ) (vm : ℕ) → length (retire_pairs pairs vm) ≡ length pairs
unfolding retire_pairs
length-retire_pairs pairs vm = length-wipe (joins vm) pairs

-- ---- the routes that operations leave
module _ (r : Route) where
  pub same_mapped : (vm guest page access generation : ℕ) → SameRoute r (map_route r vm guest page access generation)
  unfolding map_table without_slots
  same_mapped vm guest page access generation =
      record { map = length-put key_of r.map _ _; walker = length-put key_of r.walker _ _; cache = length-erase address_of r.cache _; ports = refl }

  pub same_unmapped : (vm guest : ℕ) → SameRoute r (unmap_route r vm guest)
  unfolding unmap_table without_slots
  same_unmapped vm guest = record { map = length-erase key_of r.map _; walker = length-erase key_of r.walker _; cache = length-erase address_of r.cache _; ports = refl }

  pub same_inserted : (region : Region) → SameRoute r (insert_route r region)
  unfolding insert_table
  same_inserted region = record { map = table r.map; walker = table r.walker; cache = refl; ports = refl }
    where
      table : (ws : List ℕ) → length (repeat (λ k us. put key_of us (key_in region k) (region_entry region k)) 0 region.count ws) ≡ length ws
      table ws = length-repeat _ (λ k us. length-put key_of us (key_in region k) (region_entry region k)) 0 region.count ws

  pub same_removed : (region : Region) → SameRoute r (remove_route r region)
  unfolding remove_table
  same_removed region =
      record { map = length-wipe (in_region region) r.map; walker = length-wipe (in_region region) r.walker; cache = length-wipe (in_region region) r.cache; ports = refl }

  pub same_switched : (port : ℕ) (target : Option VmId) → SameRoute r (with_ports r (port_ports r.ports port target))
  same_switched port target = record { map = refl; walker = refl; cache = refl; ports = length-set r.ports port _ }

  pub same_filled : (port guest : ℕ) → SameRoute r (fill_route r port guest)
  same_filled port guest = record { map = refl; walker = refl; cache = length-fill r.cache r.hand r.ports r.walker port guest; ports = refl }

  pub same_emptied : (slot : ℕ) → SameRoute r (with_cache r (empty_cache r.cache slot) r.hand)
  same_emptied slot = record { map = refl; walker = refl; cache = length-set r.cache slot 0; ports = refl }

  pub same_retired : (side : Side) (sets : List ℕ) (vm : ℕ) → SameRoute r (retire_route side sets vm r)
  unfolding retire_table
  same_retired side sets vm =
      let p = goes side sets vm in
      record { map = length-wipe p r.map; walker = length-wipe p r.walker; cache = length-wipe p r.cache; ports = refl }

  pub side_route_lem : (operation : SideOperation) → SameRoute r (side_route r operation)
  side_route_lem (sided.MapPage vm guest page access generation) = same_mapped vm.0 guest.0 page.0 access generation
  side_route_lem (sided.UnmapPage vm guest) = same_unmapped vm.0 guest.0
  side_route_lem (sided.InsertRegion region) = same_inserted region
  side_route_lem (sided.RemoveRegion region) = same_removed region
  side_route_lem (sided.GivePort port target) = same_switched port target
  side_route_lem (sided.FillSlot port guest) = same_filled port guest.0
  side_route_lem (sided.EmptySlot slot) = same_emptied slot
  side_route_lem (sided.ReadWord port guest word) = same_route r
  side_route_lem (sided.WriteWord port guest word value) = same_route r

length-side_sets : (side : Side) (sets : List ℕ) (operation : SideOperation) → length (side_sets side sets operation) ≡ length sets
unfolding insert_sets remove_sets
length-side_sets side sets (sided.MapPage vm guest page access generation) = refl
length-side_sets side sets (sided.UnmapPage vm guest) = refl
length-side_sets side sets (sided.InsertRegion region) = length-repeat _ (λ k ws. length-insert_page side region.vm.0 (page_in region k) ws) 0 region.count sets
length-side_sets side sets (sided.RemoveRegion region) = length-repeat _ (λ k ws. length-remove_page side region.vm.0 (page_in region k) ws) 0 region.count sets
length-side_sets side sets (sided.GivePort port target) = refl
length-side_sets side sets (sided.FillSlot port guest) = refl
length-side_sets side sets (sided.EmptySlot slot) = refl
length-side_sets side sets (sided.ReadWord port guest word) = refl
length-side_sets side sets (sided.WriteWord port guest word value) = refl

-- ---- each operation
module _ (t : Tables) where
  pub next_shape : (operation : Operation) → SameShape t (next_of t operation)
  unfolding share_pairs unshare_pairs
  next_shape (op.AddVm vm) = known_shape t _
  next_shape (op.RemoveVm vm) = known_shape t _
  next_shape (op.AssignPage vm page) = sets_shape t _ (length-assign t.sets vm.0 page.0)
  next_shape (op.ReclaimPage vm page) = sets_shape t _ (length-reclaim t.sets vm.0 page.0)
  next_shape (op.SharePage left right page) = pairs_shape t _ (length-share t.pairs left.0 right.0 page.0 (paired t.pairs left.0 right.0 page.0))
  next_shape (op.UnsharePage left right page) = pairs_shape t _ (length-erase pair_key_of t.pairs _)
  next_shape (op.On side operation) = side_shape side t _ _ (side_route_lem (route side t) operation) (length-side_sets side t.sets operation)
  next_shape op.DataBarrier = same_shape t
  next_shape op.InstructionBarrier = same_shape t
  next_shape (op.RetireVm vm) =
      record {
        setup = refl;
        sets = length-retire t.sets vm.0;
        pairs = length-retire_pairs t.pairs vm.0;
        cpu = same_retired t.cpu Cpu t.sets vm.0;
        dma = same_retired t.dma Dma t.sets vm.0;
      }

-- ---- one step of the whole machine
pub record SameSizes (s s' : State) : Type 0 where
  pub tables : SameShape s.tables s'.tables
  pub memory : length s'.memory ≡ length s.memory
