-- What an unmap or a switch that passed tells, and what the walker's word of a key tells.
use Rattle.std.specs.Prelude.{ℕ, ◌<◌, true, false, not, ◌&&◌, List, ◌≡◌, refl, Option, Some, None}
use Rattle.std.proofs.Common.{ltb-true}
use Rattle.numbers.specs.Limits.{PORTS}
use Rattle.numbers.specs.Packing.{key_of}
use Rattle.numbers.specs.Meaning.{accept}
use Rattle.numbers.specs.declared.VmId.{VmId}
use Rattle.table.specs.Table.{find, lookup, is_found, word_at}
use Rattle.table.specs.TableLaws.{lookup_nothing}
use Rattle.model.specs.Views.{is_port}
use Rattle.model.specs.EarlyLaws.{past, hold, then_passed, unmap_passed}
use Rattle.model.specs.Maps.{unmap_early, unmap_may}
use Rattle.model.specs.Ports.{is_target, port_answer}
use Rattle.maps.specs.Parts.{UnmapReady}

-- a port that was given is one that there is
pub port_passed : (known port : ℕ) (target : Option VmId) {dropped word : ℕ} → port_answer known port target ≡ accept dropped word → port < PORTS
unfolding port_answer
port_passed known port target e = ltb-true port PORTS (hold (is_port port) (is_target target) (past (not (is_port port && is_target target)) _ _ _ e).0).0

-- ---- an unmap that may be done has its numbers in range
pub unmap_ready : (known : ℕ) (map : List ℕ) (vm guest : ℕ) {dropped word : ℕ} → unmap_may known map vm guest ≡ accept dropped word → UnmapReady vm guest
unfolding unmap_may
unmap_ready known map vm guest e =
    let (d, w, early, rest) = then_passed (unmap_early known vm guest) _ e in
    let r = unmap_passed known vm guest early in
    record { vm_ok = r.vm_ok; guest_ok = r.guest_ok }

-- ---- the walker has the key exactly where its word is not 0
module _ (ws : List ℕ) (k : ℕ) where
  there : (f : Option ℕ) → (word_at ws f ≡ 0 → ⊥) → is_found f ≡ true
  there (Some i) n = refl
  there None n = absurd (n refl)

  pub walk_some : (lookup key_of ws k ≡ 0 → ⊥) → is_found (find key_of ws k) ≡ true
  unfolding lookup
  walk_some n = there (find key_of ws k) n

  pub walk_none : 0 < k → lookup key_of ws k ≡ 0 → is_found (find key_of ws k) ≡ false
  walk_none o e = rw (lookup_nothing key_of refl ws k o e)
