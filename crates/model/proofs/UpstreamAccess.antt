-- Operations 21 to 24 are upstream's memory steps, at the one word that the translation gives.
use Prim.Native.Nat.{ℕ, ◌<◌}
use mathlib.Core.Path.{◌≡◌}
use native.Mathlib.Omega.{arith}
use lib.ListN.{length, set}
use Rattle.numbers.specs.Limits.{READ, WRITE}
use Rattle.numbers.specs.Meaning.{accept}
use Rattle.numbers.specs.declared.GuestPage.{GuestPage}
use Rattle.numbers.specs.declared.Operation.TheVariants as op
use Rattle.numbers.specs.declared.Side.{Side}
use Rattle.numbers.specs.declared.SideOperation.TheVariants as sided
use Rattle.model.specs.State.{State, route}
use Rattle.model.specs.Effect.{apply, stored}
use Rattle.model.specs.Valid.{Valid}
use Rattle.model.specs.Access.{access_answer}
use Rattle.model.specs.Step.{answer_of}
use Rattle.model.specs.Upstream.{hardware_view}
use Rattle.model.specs.UpstreamStep.{MemReadStep, MemWriteStep}
use Rattle.model.specs.UpstreamRun.{address_in, stop}
use Rattle.model.proofs.OneRoute.{route_of_lem}
use Rattle.model.proofs.EffectLaws.{accepted_word}
use Rattle.model.proofs.GoodAccess.{access_passed, may_reach}
use Rattle.model.proofs.UpstreamFollows.{same_software, same_hardware, hardware_once, AcceptedFollows}
use Rattle.model.proofs.UpstreamMemory.{memory_only, word_backed, write_seen}
use Rattle.model.proofs.UpstreamRoutes.{with_own}

module _ (s : State) (valid : Valid s) where
  -- the word lies in memory
  backed : (side : Side) (bit port guest word : ℕ) {dropped read : ℕ} →
      access_answer (route side s.tables).ports (route side s.tables).cache (route side s.tables).walker bit port guest word ≡ accept dropped read →
      address_in (route side s.tables) port guest word < length s.memory
  backed side bit port guest word e =
      let r = route side s.tables in
      let p = (may_reach side s.tables (route_of_lem side s.tables valid.tables) port guest (access_passed r.ports r.cache r.walker bit port guest word e)).page_ok in
      let w = accepted_word r.ports r.cache r.walker bit port guest word e in
      omega (arith, valid.memory)

  read_step : (address : ℕ) → address < length s.memory → MemReadStep address (hardware_view s) (hardware_view s)
  read_step address h = record { backed = word_backed s.memory address h; next = same_hardware _ }

  write_step : (address value : ℕ) → address < length s.memory → MemWriteStep address value (hardware_view s)
      (hardware_view (record { tables = s.tables; memory = set s.memory address value }))
  write_step address value h = memory_only s.tables s.memory (set s.memory address value) _ (write_seen s.memory address value h)

  pub read_follows : (side : Side) (port : ℕ) (guest : GuestPage) (word : ℕ) {dropped read : ℕ} →
      answer_of s.tables (op.On side (sided.ReadWord port guest word)) ≡ accept dropped read → AcceptedFollows s (op.On side (sided.ReadWord port guest word))
  unfolding apply
  read_follows side port guest word e =
      rw (with_own side s.tables)
      (record { software = stop (same_software _); hardware = hardware_once (read_step _ (backed side READ port guest.0 word e)) })

  pub write_follows : (side : Side) (port : ℕ) (guest : GuestPage) (word value : ℕ) {dropped read : ℕ} →
      answer_of s.tables (op.On side (sided.WriteWord port guest word value)) ≡ accept dropped read →
      AcceptedFollows s (op.On side (sided.WriteWord port guest word value))
  unfolding apply stored
  write_follows side port guest word value e =
      rw (with_own side s.tables)
      (record { software = stop (same_software _); hardware = hardware_once (write_step _ value (backed side WRITE port guest.0 word e)) })
