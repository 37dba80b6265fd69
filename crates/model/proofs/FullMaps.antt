-- A machine with a full map, or with both: its k-th entry maps guest page k of one VM onto one page, and nothing is cached.
use Prim.Native.Nat.{ℕ, zero, suc, ◌+◌, ◌<◌}
use mathlib.Core.Bool.{true}
use mathlib.Core.List.{List, [], ◌∷◌}
use mathlib.Core.Path.{◌≡◌, refl, sym, ap, ◌∙◌}
use native.Mathlib.Omega.{arith}
use lib.ListN.{length, get_or, replicate, length-replicate}
use Rattle.numbers.specs.Limits.{VMS, PAGES, ENTRIES, SLOTS, READ}
use Rattle.numbers.specs.Packing.{entry, map_word, key, key_of}
use Rattle.numbers.specs.PackingLaws.{key_same}
use Rattle.numbers.specs.declared.Side.{Side}
use Rattle.numbers.specs.declared.Side.TheVariants.{Cpu, Dma}
use Rattle.table.specs.Table.{Has, Distinct}
use Rattle.model.specs.State.{Tables, Route, State, route, with_route, with_maps}
use Rattle.model.specs.Views.{knows, may_map}
use Rattle.model.specs.Valid.{EntryGood, MapGood, SameMap, ValidTables, Valid}
use Rattle.model.proofs.StartKept.{empty_has, empty_distinct}
use Rattle.model.proofs.RoutesKept.{entry_key, entry_made}
use Rattle.model.proofs.OneRoute.{route_of_lem, lengths_of, maps_route, route_valid}

abbrev pub mapping_at : ℕ → ℕ → ℕ → ℕ
mapping_at vm page guest = map_word vm guest (entry page READ 0)

-- so many of them, from a guest page on
unfoldable pub mappings_from : ℕ → ℕ → ℕ → ℕ → List ℕ
mappings_from vm page guest zero = []
mappings_from vm page guest (suc n) = mapping_at vm page guest ∷ mappings_from vm page (suc guest) n

abbrev pub full_map : ℕ → ℕ → List ℕ
full_map vm page = mappings_from vm page 0 ENTRIES

abbrev pub full_route : Route → ℕ → ℕ → Route
full_route r vm page = with_maps r (full_map vm page) (full_map vm page) (replicate SLOTS 0)

abbrev pub with_full_map : Side → Tables → ℕ → ℕ → Tables
with_full_map side t vm page = with_route side t (full_route (route side t) vm page)

-- both of them, for CPU onto one page and for DMA onto another
abbrev pub with_full_maps : State → ℕ → ℕ → ℕ → State
with_full_maps s vm page dmaPage = record { tables = with_full_map Dma (with_full_map Cpu s.tables vm page) vm dmaPage; memory = s.memory }

-- ---- its entries
length-mappings : (vm page guest n : ℕ) → length (mappings_from vm page guest n) ≡ n
unfolding mappings_from
length-mappings vm page guest zero = refl
length-mappings vm page guest (suc n) = ap suc (length-mappings vm page (suc guest) n)

mapping_at_lem : (vm page guest n i : ℕ) → i < n → get_or (mappings_from vm page guest n) i 0 ≡ mapping_at vm page (guest + i)
unfolding mappings_from
mapping_at_lem vm page guest zero i h = absurd (omega arith)
mapping_at_lem vm page guest (suc n) zero h = ap (mapping_at vm page) (omega arith)
mapping_at_lem vm page guest (suc n) (suc i) h = mapping_at_lem vm page (suc guest) n i (omega arith) ∙ ap (mapping_at vm page) (omega arith)

full_at : (vm page i : ℕ) → i < ENTRIES → get_or (full_map vm page) i 0 ≡ mapping_at vm page i
full_at vm page i h = mapping_at_lem vm page 0 ENTRIES i h ∙ ap (mapping_at vm page) (omega arith)

-- ---- it is valid where the VM may map the page
module _ (side : Side) (t : Tables) (v : ValidTables t) (vm page : ℕ) (l : vm < VMS) (b : page < t.setup.pages) (k : knows t.known vm ≡ true) (m : may_map side t.sets t.pairs vm page ≡ true) where
  most : page < PAGES
  most = omega (arith, v.setup.most_pages)

  long : length (full_map vm page) ≡ ENTRIES
  long = length-mappings vm page 0 ENTRIES

  full_each : (w : ℕ) → Has (full_map vm page) w → EntryGood side t.setup.pages t.known t.sets t.pairs w
  full_each w h =
      let i : h.spot < ENTRIES = omega (arith, h.within, long) in
      let e : mapping_at vm page h.spot ≡ w = sym (full_at vm page h.spot i) ∙ h.holds in
      rw (sym e) (entry_made vm h.spot page READ 0 l (omega arith) most (omega arith) (omega arith) side t.setup.pages t.known t.sets t.pairs b k m)

  key_at : (i : ℕ) → i < ENTRIES → key_of (get_or (full_map vm page) i 0) ≡ key vm i
  key_at i h = ap key_of (full_at vm page i h) ∙ entry_key vm i page READ 0 l (omega arith) most (omega arith) (omega arith)

  full_once : Distinct key_of (full_map vm page)
  unfolding Distinct
  full_once i j h n e =
      let a : j < ENTRIES = omega (arith, n, long) in
      let q = key_same vm i vm j (omega arith) (omega arith) (sym (key_at i (omega arith)) ∙ e ∙ key_at j a) in
      absurd (omega (arith, q.1))

  pub full_valid : ValidTables (with_full_map side t vm page)
  unfolding SameMap
  full_valid =
      let g : MapGood side t.setup.pages t.known t.sets t.pairs (full_map vm page) = record { each = full_each; once = full_once } in
      let r = lengths_of side t v in
      route_valid side t (full_route (route side t) vm page) v
      (record { map = long ∙ sym r.map; walker = long ∙ sym r.walker; cache = length-replicate {A = ℕ} SLOTS 0 ∙ sym r.cache; ports = refl })
      (maps_route side t (route side t) _ _ _ (route_of_lem side t v) (record { map = g; walker = g; same = λ x h. refl; as_long = refl })
      (record { each = λ w h. absurd (empty_has SLOTS w h); once = empty_distinct SLOTS key_of refl }))

pub full_maps_valid : (s : State) → Valid s → (vm page dmaPage : ℕ) → vm < VMS → page < s.tables.setup.pages → dmaPage < s.tables.setup.pages → knows s.tables.known vm ≡ true →
    (may_map Cpu s.tables.sets s.tables.pairs vm page ≡ true) × (may_map Dma s.tables.sets s.tables.pairs vm dmaPage ≡ true) → Valid (with_full_maps s vm page dmaPage)
full_maps_valid s v vm page dmaPage l b b' k (cpu, dma) =
    record { tables = full_valid Dma (with_full_map Cpu s.tables vm page) (full_valid Cpu s.tables v.tables vm page l b k cpu) vm dmaPage l b' k dma; memory = v.memory }
