-- `searches::lowest_in_use` meets its contract. The loops have passed pages that are not in use, and words that do not hold the page back.
use Rattle.std.proofs.Common.{sym, ◌∙◌}
use Rattle.table.specs.Loops.{ask_yes, ask_no, rise_next, rise_found}
use Rattle.model.specs.Views.{targeted, edge_on}
use Rattle.regions.specs.RegionLaws.{in_use_binding, failing_found}
use Rattle.regions.proofs.searches.lowest_in_use.Goals as goal

pub loop-k-preserved : goal.loop-k-preserved
unfolding targeted edge_on
loop-k-preserved c =
    let e = sym (ask_no _ _ _ c.loop-w.invariant c.loop-w-test.false) in
    let f = sym (ask_no _ _ _ c.loop-pair.invariant c.loop-pair-test.false) in
    rise_next _ _ _ c.loop-k.invariant c.loop-k-test.true
    (sym (in_use_binding c.args.side c.args.pairs.now c.args.map.now c.args.placed.region c.loop-k.k) ∙ rw (← c.binding_pairs-edges.ensures, ← c.page-page.ensures, ← c.key-own.ensures, e, f))

pub returns-then-key_of-own : goal.returns-then-key_of-own
unfolding targeted edge_on
returns-then-key_of-own c =
    let e = sym (ask_yes _ _ _ c.loop-w.invariant c.loop-w-test.true (rw (← c.on_page.ensures, ← c.key_of.ensures) c.if-key_of-own.true)) in
    failing_found _ _ _ (rise_found _ _ _ c.loop-k.invariant c.loop-k-test.true (sym (in_use_binding c.args.side c.args.pairs.now c.args.map.now c.args.placed.region c.loop-k.k) ∙ rw (← c.page-page.ensures, ← c.key-own.ensures, e)))
    c.loop-k-test.true

pub returns-then-on_page : goal.returns-then-on_page
unfolding targeted edge_on
returns-then-on_page c =
    let e = sym (ask_no _ _ _ c.loop-w.invariant c.loop-w-test.false) in
    let f = sym (ask_yes _ _ _ c.loop-pair.invariant c.loop-pair-test.true (sym c.on_page-in-loop-pair.ensures ∙ c.if-on_page.true)) in
    failing_found _ _ _
    (rise_found _ _ _ c.loop-k.invariant c.loop-k-test.true
    (sym (in_use_binding c.args.side c.args.pairs.now c.args.map.now c.args.placed.region c.loop-k.k) ∙ rw (← c.binding_pairs-edges.ensures, ← c.page-page.ensures, ← c.key-own.ensures, e, f)))
    c.loop-k-test.true
