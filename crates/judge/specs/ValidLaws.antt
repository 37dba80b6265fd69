-- The lengths of what is lent, and those that the header has by type, are the lengths that rule 1 asks for.
use Rattle.std.specs.Prelude.{◌≡◌, length}
use Rattle.numbers.specs.Limits.{UNITS, PORTS}
use Rattle.model.specs.Header.{Lists, tables_of}
use Rattle.model.specs.Valid.{Lengths}
use Rattle.model.specs.declared.Machine.{Machine}
use Rattle.judge.specs.Parts.{Sized}

module _ (m : Machine) (l : Lists) where
  pub lengths_of : Sized l → length m.fixed.units ≡ UNITS → length m.registers.cpu.ports ≡ PORTS → length m.registers.dma.ports ≡ PORTS → Lengths (tables_of m l)
  lengths_of s u c d =
      record {
        units = u;
        sets = s.sets;
        pairs = s.pairs;
        cpu = record { map = s.cpu.map; walker = s.cpu.walker; cache = s.cpu.cache; ports = c };
        dma = record { map = s.dma.map; walker = s.dma.walker; cache = s.dma.cache; ports = d };
      }

  pub sizes_of : Lengths (tables_of m l) → Sized l
  sizes_of g =
      record {
        sets = g.sets;
        pairs = g.pairs;
        cpu = record { map = g.cpu.map; walker = g.cpu.walker; cache = g.cpu.cache };
        dma = record { map = g.dma.map; walker = g.dma.walker; cache = g.dma.cache };
      }
