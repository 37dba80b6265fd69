-- An operation that changes one route and nothing else owes that route's part of validity.
use Prim.Native.Nat.{ℕ, ◌<◌}
use mathlib.Core.List.{List}
use mathlib.Core.Logic.{inl}
use mathlib.Core.Path.{sym, ◌∙◌}
use Rattle.numbers.specs.Limits.{SLOTS}
use Rattle.numbers.specs.Meaning.{Answer}
use Rattle.numbers.specs.declared.Operation.{Operation}
use Rattle.numbers.specs.declared.Side.{Side}
use Rattle.numbers.specs.declared.Side.TheVariants.{Cpu, Dma}
use Rattle.model.specs.State.{Tables, Route, route, with_route, with_side, with_maps, with_cache, with_ports}
use Rattle.model.specs.Effect.{quiet}
use Rattle.model.specs.ShapeLaws.{SameRoute}
use Rattle.model.specs.Valid.{RouteLengths, Lengths, CacheGood, PortsGood, RouteGood, ValidTables}
use Rattle.model.specs.Good.{Good}
use Rattle.model.proofs.Refused.{quiet_good}
use Rattle.model.proofs.RoutesKept.{MapsGood}

-- what is asked of a side's route, and what valid tables have
abbrev pub GoodRoute : Side → Tables → Route → Type 0
GoodRoute side t r = RouteGood side t.setup.pages t.known t.sets t.pairs r

pub route_of_lem : (side : Side) (t : Tables) → ValidTables t → GoodRoute side t (route side t)
route_of_lem Cpu t v = v.cpu
route_of_lem Dma t v = v.dma

pub lengths_of : (side : Side) (t : Tables) → ValidTables t → RouteLengths (route side t)
lengths_of Cpu t v = v.lengths.cpu
lengths_of Dma t v = v.lengths.dma

-- its two maps
pub maps_of : (side : Side) (t : Tables) → ValidTables t → MapsGood side t.setup.pages t.known t.sets t.pairs (route side t).map (route side t).walker
maps_of side t v =
    let g = route_of_lem side t v in
    let l = lengths_of side t v in
    record { map = g.map; walker = g.walker; same = g.same; as_long = l.walker ∙ sym l.map }

-- a route of other maps and the cache that they leave, of another cache and hand, of other ports
pub maps_route : (side : Side) (t : Tables) (r : Route) (map walker cache : List ℕ) → GoodRoute side t r → MapsGood side t.setup.pages t.known t.sets t.pairs map walker → CacheGood walker cache → GoodRoute side t (with_maps r map walker cache)
maps_route side t r map walker cache g m c = record { map = m.map; walker = m.walker; same = m.same; cache = c; ports = g.ports; hand = g.hand }

pub cache_route : (side : Side) (t : Tables) (r : Route) (cache : List ℕ) (hand : ℕ) → GoodRoute side t r → CacheGood r.walker cache → hand < SLOTS → GoodRoute side t (with_cache r cache hand)
cache_route side t r cache hand g c h = record { map = g.map; walker = g.walker; same = g.same; cache = c; ports = g.ports; hand = h }

pub ports_route : (side : Side) (t : Tables) (r : Route) (ports : List ℕ) → GoodRoute side t r → PortsGood t.known ports → GoodRoute side t (with_ports r ports)
ports_route side t r ports g p = record { map = g.map; walker = g.walker; same = g.same; cache = g.cache; ports = p; hand = g.hand }

-- ---- one route replaced
same_lengths : (r r' : Route) → SameRoute r r' → RouteLengths r → RouteLengths r'
same_lengths r r' s l = record { map = s.map ∙ l.map; walker = s.walker ∙ l.walker; cache = s.cache ∙ l.cache; ports = s.ports ∙ l.ports }

lengths_with : (side : Side) (t : Tables) (r : Route) → SameRoute (route side t) r → Lengths t → Lengths (with_route side t r)
lengths_with Cpu t r s l = record { units = l.units; sets = l.sets; pairs = l.pairs; cpu = same_lengths t.cpu r s l.cpu; dma = l.dma }
lengths_with Dma t r s l = record { units = l.units; sets = l.sets; pairs = l.pairs; cpu = l.cpu; dma = same_lengths t.dma r s l.dma }

pub route_valid : (side : Side) (t : Tables) (r : Route) → ValidTables t → SameRoute (route side t) r → GoodRoute side t r → ValidTables (with_route side t r)
route_valid Cpu t r v s g = record { lengths = lengths_with Cpu t r s v.lengths; setup = v.setup; known = v.known; pages = v.pages; pairs = v.pairs; cpu = g; dma = v.dma }
route_valid Dma t r v s g = record { lengths = lengths_with Dma t r s v.lengths; setup = v.setup; known = v.known; pages = v.pages; pairs = v.pairs; cpu = v.cpu; dma = g }

-- an operation that leaves the page sets and replaces one side's route
pub route_good : (side : Side) (t : Tables) → ValidTables t → (operation : Operation) (answer : Answer) (r : Route) → SameRoute (route side t) r → GoodRoute side t r →
    Good t operation (record { answer = answer; tables = with_side side t r t.sets; effect = quiet })
route_good Cpu t v operation answer r s g = quiet_good t operation answer (with_route Cpu t r) (route_valid Cpu t r v s g) (λ vm page l b h. h) (λ w h. inl h)
route_good Dma t v operation answer r s g = quiet_good t operation answer (with_route Dma t r) (route_valid Dma t r v s g) (λ vm page l b h. h) (λ w h. inl h)
