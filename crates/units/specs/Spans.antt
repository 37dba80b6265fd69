-- Spans, judged without wrapping: natural numbers have no end (docs/MACHINE.md, 5).
use Rattle.std.specs.Prelude.{ℕ, ◌+◌, Bool, ◌&&◌, ltb, leb}
use Rattle.numbers.specs.Limits.{GUEST_PAGES}
use Rattle.numbers.specs.declared.Region.{Region}

-- the count places from base on end at the limit or before
abbrev pub span_within : ℕ → ℕ → ℕ → Bool
span_within base count limit = leb (base + count) limit

-- at least one page, all of them guest pages and pages of the machine
abbrev pub region_span : Region → ℕ → Bool
region_span region pages =
    ltb 0 region.count && span_within region.guest.0 region.count GUEST_PAGES && span_within region.page.0 region.count pages
