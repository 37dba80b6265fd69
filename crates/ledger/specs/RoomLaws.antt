-- Room for one more word: there is some exactly where a place is empty. And the place that a new pair goes to.
use Rattle.std.specs.Prelude.{ℕ, ◌<◌, Bool, true, false, List, ◌≡◌, refl, length, Option, Some, None}
use Rattle.std.proofs.Common.{sym, ◌∙◌, ⊎_elim, le-leb, leb-true}
use Rattle.std.specs.Prelude.{if◌then◌else◌}
use Rattle.numbers.specs.Packing.{pair_key_of, pair_key, pair_word}
use Rattle.numbers.specs.CaseLaws.{cases}
use Rattle.table.specs.ScanLaws.{found_never}
use Rattle.table.specs.Table.{lowest_free, room_for, is_found, or_else, set_at, find, place, put}
use Rattle.table.specs.TableLaws.{free_at, free_place, place_free}
use Rattle.model.specs.Views.{paired}
use Rattle.model.specs.Ledger.{share_pairs}
use Rattle.ledger.specs.Parts.{share_place}

pub room_free : (ws : List ℕ) → room_for ws 1 ≡ is_found (lowest_free ws)
room_free ws = go (lowest_free ws) refl
  where
    go : (f : Option ℕ) → lowest_free ws ≡ f → room_for ws 1 ≡ is_found f
    go (Some i) e = le-leb 1 _ (place_free ws i e)
    go None e = ⊎_elim (λ t. let (i, q) = free_place ws (leb-true 1 _ t) in absurd (found_never i (sym q ∙ e))) (λ n. n) (cases (room_for ws 1))

-- ---- the place of a new pair: it is within the table, and the pairs with the new one are those with it there
free_within : (ws : List ℕ) (stored : Bool) (i : ℕ) → (if stored then None else lowest_free ws) ≡ Some i → i < length ws
free_within ws true i e = absurd (found_never i (sym e))
free_within ws false i e = (free_at ws i e).within

pub share_within : (pairs : List ℕ) (left right page i : ℕ) → share_place pairs left right page ≡ Some i → i < length pairs
unfolding share_place
share_within pairs left right page i e = free_within pairs (paired pairs left right page) i e

pub share_at : (pairs : List ℕ) (left right page : ℕ) → share_pairs pairs left right page ≡ set_at pairs (share_place pairs left right page) (pair_word left right page)
unfolding share_place share_pairs paired put place
share_at pairs left right page = go (find pair_key_of pairs (pair_key left right page))
  where
    go : (f : Option ℕ) → (if is_found f then pairs else set_at pairs (or_else f (lowest_free pairs)) (pair_word left right page)) ≡ set_at pairs (if is_found f then None else lowest_free pairs) (pair_word left right page)
    go (Some i) = refl
    go None = refl
