-- `table::free_entries` meets its contract.
use Rattle.std.proofs.Common.{rules, ◌≡◌, ◌==◌, sym, ◌∙◌}
use Rattle.std.specs.Prelude.{count_by}
use Rattle.table.specs.Table.{is_empty, free_entries}
use Rattle.table.specs.ScanLaws.{count_by_is}
use Rattle.table.proofs.free_entries.Goals as goal

pub returns : goal.returns
unfolding free_entries
returns c =
    let e : c.count.result ≡ count_by (λ w. w == 0) c.args.words.now = search rules in
    e ∙ sym (count_by_is is_empty c.args.words.now)
