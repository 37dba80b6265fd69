use Rattle.std.proofs.Common.{◌∙◌, rules, tests}
use Rattle.std.proofs.lemmas.Iterator.{YieldsList-from_slice}
use Rattle.std.proofs.lemmas.Iterator.Search.{any_from_yields_List}
use Rattle.model.specs.Start.{bad_span}
use Rattle.start.specs.StartLaws.{any_span}
use Rattle.start.proofs.any_bad_span.Goals as goal

pub returns : goal.returns
returns c =
    any_from_yields_List (λ six. bad_span c.args.pages six 0) _ _ _ c.any.ensures.ran (YieldsList-from_slice c.sixes.result.now c.iter.ensures.rest) (λ x b q k. search (rules, tests))
    ∙ any_span _ _ c.sixes.ensures c.args.pages
