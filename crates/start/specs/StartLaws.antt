-- Laws of start: the units by their six numbers, the page sets, and the state that an accepted start leaves.
use Rattle.std.specs.Prelude.{ℕ, zero, suc, ◌+◌, ◌*◌, ◌≤◌, ◌<◌, Bool, not, ◌&&◌, List, [], ◌∷◌, ◌≡◌, ◌||◌, true, false, refl, length, get_or, set, ltb, drop, replicate, Ok, Err}
use Rattle.std.proofs.Common.{⊎_elim, sym, ap, ◌∙◌, arith, lt-ltb, le-ltb, ltb-true, ltb-false, length-set, get_or-take, get_or-drop, get_or-set_same, get_or-set_other, ext_get_or}
use Rattle.std.specs.List.{list_any}
use Rattle.std.specs.Simd.{first_chunks}
use Rattle.std.proofs.lemmas.Grind.{common_steps}
use Rattle.std.proofs.lemmas.List.{length-replicate, get_or-replicate}
use Rattle.std.specs.Prelude.{if◌then◌else◌}
use Rattle.numbers.specs.CaseLaws.{cases, equal}
use Rattle.numbers.specs.declared.Accepted.{Accepted}
use Rattle.numbers.specs.declared.Refused.{Refused}
use Rattle.table.specs.Loops.{Sweeping, sweep_next}
use Rattle.table.specs.Scan.{any_below, any_from, repeat}
use Rattle.pages.specs.Rows.{pool_row, shared_row}
use Rattle.pages.specs.RowLaws.{length-add}
use Rattle.units.specs.Spans.{region_span}
use Rattle.units.specs.Units.{mark_of, no_unit}
use Rattle.units.specs.declared.Unit.{Unit}
use Rattle.model.specs.Effect.{accepted}
use Rattle.model.specs.Header.{Lists, state_of}
use Rattle.model.specs.Start.{Told, UNIT_NUMBERS, count_told, number_told, unit_told, units_from, unit_region, bad_field, bad_span, start_answer, in_span, first_home, fresh_state, empty_state, start}
use Rattle.model.specs.ToldLaws.{StartPassed, start_passed, up_to, length-units, unit_at}
use Rattle.model.specs.declared.Machine.{Machine}
use Rattle.start.specs.Begun.{Sixes, began, zeros, fresh_header}

-- ---- tests in another order
pub both_hold : (x a b : Bool) → not (a && b) ≡ false → x ≡ (x && a && b)
both_hold true true true e = refl
both_hold false a b e = refl
both_hold true true false e = e
both_hold true false b e = e

pub one_fails : (x a b : Bool) → not (a && b) ≡ true → false ≡ (x && a && b)
one_fails false a b e = refl
one_fails true false b e = refl
one_fails true true false e = refl
one_fails true true true e = e

-- ---- the units, by the six numbers of each
pub sixes_told : (sixes : List (List ℕ)) (numbers : List ℕ) → sixes ≡ first_chunks UNIT_NUMBERS (count_told numbers) numbers → length sixes ≡ count_told numbers → Sixes sixes numbers
sixes_told sixes numbers e l = record { count = l; each = λ k field h b. rw e (told (count_told numbers) numbers k field h b) }
  where
    told : (n : ℕ) (ws : List ℕ) (k field : ℕ) → k < n → field < UNIT_NUMBERS → get_or (get_or (first_chunks UNIT_NUMBERS n ws) k []) field 0 ≡ number_told ws k field
    told zero ws k field h b = absurd (omega arith)
    told (suc n) ws zero field h b = let z : 0 + field ≡ field = omega arith in rw z (get_or-take UNIT_NUMBERS ws field 0 b)
    told (suc n) ws (suc k) field h b =
        let z : UNIT_NUMBERS + (k * UNIT_NUMBERS + field) ≡ suc k * UNIT_NUMBERS + field = omega arith in
        told n (drop UNIT_NUMBERS ws) k field (omega arith) b ∙ rw z at (get_or-drop UNIT_NUMBERS ws (k * UNIT_NUMBERS + field) 0)

or_if : (a b : Bool) → (a || b) ≡ (if a then true else b)
or_if true b = refl
or_if false b = refl

module _ (sixes : List (List ℕ)) (numbers : List ℕ) (s : Sixes sixes numbers) where
  unit_of : (k : ℕ) → k < count_told numbers → unit_told (get_or sixes k []) 0 ≡ unit_told numbers k
  unit_of k h =
      λ i.
      record {
        region = record {
          vm = record { 0 = s.each k 0 h (omega arith) i };
          guest = record { 0 = s.each k 1 h (omega arith) i };
          page = record { 0 = s.each k 2 h (omega arith) i };
          count = s.each k 3 h (omega arith) i;
          access = s.each k 4 h (omega arith) i;
        };
        mark = mark_of (s.each k 5 h (omega arith) i);
      }

  any_of : (test : List ℕ → Bool) (bad : ℕ → Bool) → ((k : ℕ) → k < count_told numbers → test (get_or sixes k []) ≡ bad k) → list_any test sixes ≡ any_below bad (count_told numbers)
  any_of test bad same = below sixes 0 (λ k h. let z : 0 + k ≡ k = omega arith in rw z (same k (omega (arith, s.count)))) ∙ rw s.count
    where
      below : (rest : List (List ℕ)) (i : ℕ) → ((k : ℕ) → k < length rest → test (get_or rest k []) ≡ bad (i + k)) → list_any test rest ≡ any_from bad i (length rest)
      below [] i each = refl
      below (six ∷ rest) i each =
          let here : test six ≡ bad i = let z : i + 0 ≡ i = omega arith in rw z at (each 0 (omega arith)) in
          let more : (k : ℕ) → k < length rest → test (get_or rest k []) ≡ bad (suc i + k) = λ k h. let z : i + suc k ≡ suc i + k = omega arith in rw z at (each (suc k) (omega arith)) in
          rw (here, below rest (suc i) more) (or_if (bad i) _)

  pub any_field : list_any (λ six. bad_field six 0) sixes ≡ any_below (bad_field numbers) (count_told numbers)
  any_field = any_of (λ six. bad_field six 0) (bad_field numbers) (λ k h. rw (s.each k 0 h (omega arith), s.each k 4 h (omega arith), s.each k 5 h (omega arith)))

  pub any_span : (pages : ℕ) → list_any (λ six. bad_span pages six 0) sixes ≡ any_below (bad_span pages numbers) (count_told numbers)
  any_span pages = any_of (λ six. bad_span pages six 0) (bad_span pages numbers) (λ k h. ap (λ (unit : Unit). not (region_span (unit_region unit) pages)) (unit_of k h))

-- writes the units that are told, k of them so far, into room for n
pub record Writing (numbers : List ℕ) (n : ℕ) (now : List Unit) (k : ℕ) : Type 0 where
  pub place : k ≤ count_told numbers
  pub same : length now ≡ n
  pub list : (j : ℕ) → j < n → get_or now j no_unit ≡ up_to numbers k j

module _ (numbers : List ℕ) (n : ℕ) where
  pub write_start : Writing numbers n (replicate n no_unit) 0
  write_start =
      record {
        place = omega arith;
        same = length-replicate n no_unit;
        list = λ j h. get_or-replicate n j no_unit no_unit h ∙ rw (le-ltb j 0 (omega arith));
      }

  pub write_next : (now : List Unit) (k : ℕ) → Writing numbers n now k → k < count_told numbers → k < n → Writing numbers n (set now k (unit_told numbers k)) (k + 1)
  write_next now k r h l = record { place = omega arith; same = length-set now k _ ∙ r.same; list = λ j b. ⊎_elim (here j) (elsewhere j b) (equal j k) }
    where
      here : (j : ℕ) → j ≡ k → get_or (set now k (unit_told numbers k)) j no_unit ≡ up_to numbers (k + 1) j
      here j e = rw (e, get_or-set_same now k (unit_told numbers k) no_unit (omega (arith, r.same)), lt-ltb k (k + 1) (omega arith))

      alike : (j : ℕ) → (j ≡ k → ⊥) → ltb j (k + 1) ≡ ltb j k
      alike j d = ⊎_elim (λ t. rw (t, lt-ltb j (k + 1) (omega (arith, ltb-true j k t)))) (λ f. rw (f, le-ltb j (k + 1) (omega (arith, ltb-false j k f)))) (cases (ltb j k))

      elsewhere : (j : ℕ) → j < n → (j ≡ k → ⊥) → get_or (set now k (unit_told numbers k)) j no_unit ≡ up_to numbers (k + 1) j
      elsewhere j b d = get_or-set_other now k j (unit_told numbers k) no_unit d ∙ (r.list j b ∙ rw (alike j d))

  pub write_end : (now : List Unit) (k : ℕ) → Writing numbers n now k → count_told numbers ≤ k → now ≡ units_from numbers 0 n
  write_end now k r h =
      let e : k ≡ count_told numbers = omega (arith, r.place) in
      ext_get_or no_unit now (units_from numbers 0 n) (r.same ∙ sym (length-units numbers 0 n))
      (λ j b. let h' : j < n = rw r.same at b in let z : 0 + j ≡ j = omega arith in r.list j h' ∙ rw e (sym (rw z at (unit_at numbers 0 n j h'))))

-- ---- the page sets
-- a turn that puts the next page where it begins keeps their length
pub home_next : (base count n : ℕ) (ws now next : List ℕ) (i : ℕ) → Sweeping (first_home base count) n ws now i → i < n → next ≡ first_home base count i now → Sweeping (first_home base count) n ws next (i + 1)
home_next base count n ws now next i r h e =
    sweep_next (first_home base count) n ws now next i r h e (ap length e ∙ length-add now (if in_span base count i then shared_row else pool_row) i)

-- ---- the state that is left
-- what was lent, with every page at home and all else zeros
abbrev anew : Told → Lists → Lists
anew t l =
    record {
      sets = repeat (first_home t.shared_base t.shared_count) 0 t.pages (zeros l.sets);
      pairs = zeros l.pairs;
      cpu_map = zeros l.cpu_map;
      cpu_walker = zeros l.cpu_walker;
      cpu_cache = zeros l.cpu_cache;
      dma_map = zeros l.dma_map;
      dma_walker = zeros l.dma_walker;
      dma_cache = zeros l.dma_cache;
      memory = zeros l.memory;
    }

-- with the fresh header that is the fresh state where the lengths are right
anew_fresh : (t : Told) (l : Lists) → StartPassed t l → state_of (fresh_header t) (anew t l) ≡ fresh_state t
unfolding fresh_state
anew_fresh t l p =
    let k = p.lengths in
    λ i.
    state_of (fresh_header t)
    (record {
      sets = repeat (first_home t.shared_base t.shared_count) 0 t.pages (replicate (k.sets i) 0);
      pairs = replicate (k.pairs i) 0;
      cpu_map = replicate (k.cpu_map i) 0;
      cpu_walker = replicate (k.cpu_walker i) 0;
      cpu_cache = replicate (k.cpu_cache i) 0;
      dma_map = replicate (k.dma_map i) 0;
      dma_walker = replicate (k.dma_walker i) 0;
      dma_cache = replicate (k.dma_cache i) 0;
      memory = replicate (k.memory i) 0;
    })

-- a start that is accepted drops nothing and reads nothing
accepted_so : (t : Told) (l : Lists) (ok : Accepted) → start_answer t l ≡ Ok ok → accepted ≡ Ok ok
unfolding start_answer
accepted_so t l ok e = grind (arith, common_steps)

module _ (t : Told) (l : Lists) where
  -- refused, with what was lent as it was
  pub start_refused_lem : (refused : Refused) → start_answer t l ≡ Err refused → began (Err refused) l ≡ start t l
  unfolding start empty_state
  start_refused_lem refused e = rw e

  -- accepted, with each list as it is left
  pub record Fresh (m : Machine) (now : Lists) : Type 0 where
    pub header_is : m ≡ fresh_header t
    pub sets_are : now.sets ≡ repeat (first_home t.shared_base t.shared_count) 0 t.pages (zeros l.sets)
    pub pairs_are : now.pairs ≡ zeros l.pairs
    pub cpu_map_is : now.cpu_map ≡ zeros l.cpu_map
    pub cpu_walker_is : now.cpu_walker ≡ zeros l.cpu_walker
    pub cpu_cache_is : now.cpu_cache ≡ zeros l.cpu_cache
    pub dma_map_is : now.dma_map ≡ zeros l.dma_map
    pub dma_walker_is : now.dma_walker ≡ zeros l.dma_walker
    pub dma_cache_is : now.dma_cache ≡ zeros l.dma_cache
    pub memory_is : now.memory ≡ zeros l.memory

  left_is : (m : Machine) (now : Lists) → Fresh m now → state_of m now ≡ state_of (fresh_header t) (anew t l)
  left_is m now f =
      λ i.
      state_of (f.header_is i)
      (record {
        sets = f.sets_are i;
        pairs = f.pairs_are i;
        cpu_map = f.cpu_map_is i;
        cpu_walker = f.cpu_walker_is i;
        cpu_cache = f.cpu_cache_is i;
        dma_map = f.dma_map_is i;
        dma_walker = f.dma_walker_is i;
        dma_cache = f.dma_cache_is i;
        memory = f.memory_is i;
      })

  pub start_accepted : (ok : Accepted) (m : Machine) (now : Lists) → start_answer t l ≡ Ok ok → Fresh m now → began (Ok m) now ≡ start t l
  unfolding start
  start_accepted ok m now e f =
      let so = accepted_so t l ok e in
      let state = left_is m now f ∙ anew_fresh t l (start_passed t l e) in
      rw e (λ i. record { answer = so i; state = state i })
