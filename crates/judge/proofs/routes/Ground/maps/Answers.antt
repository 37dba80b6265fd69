use Rattle.std.proofs.Common.{sym, ◌∙◌, true≢false}
use Rattle.judge.specs.RouteLaws.{packed}
use Rattle.judge.proofs.routes.Ground.maps.Goals.{then-entries, else-entries}
use Rattle.judge.proofs.routes.Ground.maps.Goals as goal

pub same_maps-requires : goal.same_maps-requires
same_maps-requires c =
    elim c.if-entries.branch [
      | then-entries w ↦
          let known = c.args.self.now.homes.known_vms in
          let lengths = c.requires in
          (lengths.0, lengths.1, packed known (c.entries.ensures.sound w.if-entries.true), packed known (w.entries-then-entries.ensures.sound (sym w.value-is ∙ c.if-entries-2.true)))
      | else-entries w ↦ absurd (true≢false (sym c.if-entries-2.true ∙ w.value-is ∙ w.if-entries.false))
    ]
