-- What a valid state gives to the functions behind the entries.
use Rattle.std.specs.Prelude.{◌*◌, ◌≤◌, length}
use Rattle.std.proofs.Common.{arith}
use Rattle.numbers.specs.Limits.{PAGES, SETS, SET_WORDS}
use Rattle.model.specs.Header.{Lists, state_of}
use Rattle.model.specs.Valid.{Valid}
use Rattle.model.specs.declared.Machine.{Machine}
use Rattle.operate.specs.Fit.{Fit}

module _ (m : Machine) (l : Lists) (v : Valid (state_of m l)) where
  -- the joined operation may be given it
  pub fit : Fit m.fixed l.sets l.memory
  fit =
      record {
        sized = record { few_pages = v.tables.setup.most_pages; sets_length = v.tables.lengths.sets; memory_length = v.memory };
        few_units = v.tables.setup.unit_count;
      }

  -- and so may the searches for free pages
  pub free_asks : (m.fixed.pages ≤ PAGES) × (SETS * SET_WORDS ≤ length l.sets)
  free_asks = (v.tables.setup.most_pages, omega (arith, v.tables.lengths.sets))
