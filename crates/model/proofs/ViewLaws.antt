-- What a view says of the words of its table, and what tells a view.
use Prim.Native.Nat.{ℕ, ◌<◌}
use mathlib.Core.Bool.{Bool, true, false, not, ◌&&◌, ◌||◌, true≢false, or-true}
use mathlib.Core.List.{List}
use mathlib.Core.Logic.{◌⊎◌, inl, inr, ⊎_elim}
use mathlib.Core.Path.{◌≡◌, refl, sym, ◌∙◌}
use native.Mathlib.Omega.{arith}
use lib.Dec.{eqb}
use lib.ListN.{length, get_or}
use borrow.Author.Tests.{eq-eqb, ne_eqb, eqb-true, eqb-false, not-true}
use Rattle.numbers.specs.CaseLaws.{cases}
use Rattle.numbers.specs.Limits.{VMS, PAGES, IDLE}
use Rattle.numbers.specs.Packing.{filled_of, page_of, vm_of, left_of, right_of, pair_key_of, pair_key}
use Rattle.numbers.specs.declared.Side.{Side}
use Rattle.table.specs.Scan.{any_below}
use Rattle.table.specs.ScanLaws.{IsFirst, any_here, has_any, any_false, any_true, any_below_false, any_below_true}
use Rattle.table.specs.Table.{Has, find, is_found}
use Rattle.table.specs.TableLaws.{find_at, find_none}
use Rattle.std.specs.Prelude.{Option, Some, None}
use Rattle.model.specs.EarlyLaws.{both}
use Rattle.model.specs.MemoryLaws.{get_or-there}
use Rattle.model.specs.Views.{claims, claimed_elsewhere, has_pages, on_page, of_vm, joins, shares, edge_on, edge_of, paired, targeted, has_mappings, lent_to, may_map, on_port}

-- ---- one of two, or neither
pub either : (a b : Bool) → (a || b) ≡ true → (a ≡ true) ⊎ (b ≡ true)
either true b e = inl refl
either false b e = inr e

pub neither : (a b : Bool) → (a || b) ≡ false → (a ≡ false) × (b ≡ false)
neither true b e = absurd (true≢false e)
neither false b e = (refl, e)

-- what is so whenever it is not otherwise
pub not_so : (t : Bool) → (t ≡ true → ⊥) → t ≡ false
not_so t n = ⊎_elim (λ y. absurd (n y)) (λ f. f) (cases t)

-- ---- one word
pub record OnPage (page w : ℕ) : Type 0 where
  pub filled : filled_of w ≡ 1
  pub same : page_of w ≡ page

pub on_page_lem : (page w : ℕ) → filled_of w ≡ 1 → page_of w ≡ page → on_page page w ≡ true
on_page_lem page w f e = rw (eq-eqb (filled_of w) 1 f) (eq-eqb (page_of w) page e)

pub on_page_inv : (page w : ℕ) → on_page page w ≡ true → OnPage page w
on_page_inv page w e =
    let r = both (eqb (filled_of w) 1) (eqb (page_of w) page) e in
    record { filled = eqb-true _ _ r.0; same = eqb-true _ _ r.1 }

pub of_vm_lem : (vm w : ℕ) → filled_of w ≡ 1 → vm_of w ≡ vm → of_vm vm w ≡ true
of_vm_lem vm w f e = rw (eq-eqb (filled_of w) 1 f) (eq-eqb (vm_of w) vm e)

-- the VM is at one of the pair's ends
abbrev pub AtEnd : ℕ → ℕ → Type 0
AtEnd vm w = (left_of w ≡ vm) ⊎ (right_of w ≡ vm)

pub joined : (vm w : ℕ) → filled_of w ≡ 1 → AtEnd vm w → joins vm w ≡ true
joined vm w f e = rw (eq-eqb (filled_of w) 1 f) (⊎_elim (λ l. rw (eq-eqb (left_of w) vm l)) right e)
  where
    right : right_of w ≡ vm → (eqb (left_of w) vm || eqb (right_of w) vm) ≡ true
    right r = rw (eq-eqb (right_of w) vm r) (or-true (eqb (left_of w) vm))

pub joined_inv : (vm w : ℕ) → joins vm w ≡ true → AtEnd vm w
joined_inv vm w e =
    let r = both (eqb (filled_of w) 1) (eqb (left_of w) vm || eqb (right_of w) vm) e in
    ⊎_elim (λ l. inl (eqb-true _ _ l)) (λ r. inr (eqb-true _ _ r)) (either (eqb (left_of w) vm) (eqb (right_of w) vm) r.1)

-- ---- pairs
-- a pair that lends the page to the VM
pub record Lends (pairs : List ℕ) (vm page w : ℕ) : Type 0 where
  pub there : Has pairs w
  pub filled : filled_of w ≡ 1
  pub same : page_of w ≡ page
  pub end : AtEnd vm w

pub lends_shares : (pairs : List ℕ) (vm page w : ℕ) → Lends pairs vm page w → shares pairs vm page ≡ true
unfolding shares
lends_shares pairs vm page w r =
    has_any _ pairs w r.there (rw (joined vm w r.filled r.end) (on_page_lem page w r.filled r.same))

pub shares_lends : (pairs : List ℕ) (vm page : ℕ) → shares pairs vm page ≡ true → (w : ℕ) × Lends pairs vm page w
unfolding shares
shares_lends pairs vm page e =
    let (w, h, t) = any_true _ pairs refl e in
    let r = both (joins vm w) (on_page page w) t in
    let o = on_page_inv page w r.1 in
    (w, record { there = h; filled = o.filled; same = o.same; end = joined_inv vm w r.0 })

-- no edge names the page; no edge names the VM
pub no_edge_on : (pairs : List ℕ) (page w : ℕ) → edge_on pairs page ≡ false → Has pairs w → filled_of w ≡ 1 → page_of w ≡ page → ⊥
unfolding edge_on
no_edge_on pairs page w e h f q = true≢false (sym (on_page_lem page w f q) ∙ any_false _ pairs w e h)

pub no_edge_of : (pairs : List ℕ) (vm w : ℕ) → edge_of pairs vm ≡ false → Has pairs w → filled_of w ≡ 1 → AtEnd vm w → ⊥
unfolding edge_of
no_edge_of pairs vm w e h f q = true≢false (sym (joined vm w f q) ∙ any_false _ pairs w e h)

-- a pair of these ends on the page, in either order
pub record Joins (pairs : List ℕ) (left right page w : ℕ) : Type 0 where
  pub there : Has pairs w
  pub key : pair_key_of w ≡ pair_key left right page

pub paired_joins : (pairs : List ℕ) (left right page : ℕ) → paired pairs left right page ≡ true → (w : ℕ) × Joins pairs left right page w
unfolding paired
paired_joins pairs left right page e = go (find pair_key_of pairs (pair_key left right page)) refl e
  where
    at : (i : ℕ) → IsFirst (λ w. eqb (pair_key_of w) (pair_key left right page)) pairs i → (w : ℕ) × Joins pairs left right page w
    at i r =
        let k : pair_key_of (get_or pairs i 0) ≡ pair_key left right page = eqb-true _ _ r.passes in
        (get_or pairs i 0, record { there = record { spot = i; within = r.within; holds = refl; filled = λ z. absurd (let q = rw z at k in omega arith) }; key = k })

    go : (f : Option ℕ) → find pair_key_of pairs (pair_key left right page) ≡ f → is_found f ≡ true → (w : ℕ) × Joins pairs left right page w
    go (Some i) q t = at i (find_at pair_key_of pairs (pair_key left right page) i q)
    go None q t = absurd (true≢false (sym t))

pub not_paired : (pairs : List ℕ) (left right page w : ℕ) → paired pairs left right page ≡ false → Joins pairs left right page w → ⊥
unfolding paired
not_paired pairs left right page w e r = go (find pair_key_of pairs (pair_key left right page)) refl e
  where
    go : (f : Option ℕ) → find pair_key_of pairs (pair_key left right page) ≡ f → is_found f ≡ false → ⊥
    go (Some i) q t = true≢false t
    go None q t = find_none pair_key_of pairs (pair_key left right page) q r.there.spot r.there.within (rw r.there.holds r.key)

-- ---- mappings
pub not_targeted : (counts : ℕ → Bool) (table : List ℕ) (page w : ℕ) → targeted counts table page ≡ false → Has table w → counts w ≡ true → filled_of w ≡ 1 → page_of w ≡ page → ⊥
unfolding targeted
not_targeted counts table page w e h c f q = true≢false (sym (rw c (on_page_lem page w f q)) ∙ any_false _ table w e h)

pub no_mappings : (table : List ℕ) (vm w : ℕ) → has_mappings table vm ≡ false → Has table w → filled_of w ≡ 1 → vm_of w ≡ vm → ⊥
unfolding has_mappings
no_mappings table vm w e h f q = true≢false (sym (of_vm_lem vm w f q) ∙ any_false _ table w e h)

-- ---- ports
pub on_no_port : (ports : List ℕ) (vm port : ℕ) → on_port ports vm ≡ false → port < length ports → get_or ports port IDLE ≡ vm → ⊥
unfolding on_port
on_no_port ports vm port e h q =
    let z : get_or ports port 0 ≡ vm = get_or-there ports port 0 IDLE h ∙ q in
    true≢false (sym (any_here (eqb vm) ports port h (eq-eqb vm _ (sym z))) ∙ e)

-- ---- claims
-- another VM claims the page
abbrev other_claims : Side → List ℕ → ℕ → ℕ → ℕ → Bool
other_claims side sets vm page other = not (eqb other vm) && claims side sets other page

-- no other VM claims the page on the side
pub not_elsewhere : (side : Side) (sets : List ℕ) (vm page other : ℕ) → claimed_elsewhere side sets vm page ≡ false → other < VMS → (other ≡ vm → ⊥) → claims side sets other page ≡ false
unfolding claimed_elsewhere
not_elsewhere side sets vm page other e h n = rw (ne_eqb other vm n) at (any_below_false (other_claims side sets vm page) VMS other e h)

pub nowhere_else : (side : Side) (sets : List ℕ) (vm page : ℕ) → ((other : ℕ) → other < VMS → (other ≡ vm → ⊥) → claims side sets other page ≡ false) → claimed_elsewhere side sets vm page ≡ false
unfolding claimed_elsewhere
nowhere_else side sets vm page none = not_so _ found
  where
    found : any_below (other_claims side sets vm page) VMS ≡ true → ⊥
    found t =
        let (other, h, s) = any_below_true (other_claims side sets vm page) VMS t in
        let r = both (not (eqb other vm)) (claims side sets other page) s in
        true≢false (sym r.1 ∙ none other h (eqb-false other vm (not-true (eqb other vm) r.0)))

-- the VM claims no page on the side
pub no_pages_lem : (side : Side) (sets : List ℕ) (vm page : ℕ) → has_pages side sets vm ≡ false → page < PAGES → claims side sets vm page ≡ false
unfolding has_pages
no_pages_lem side sets vm page e h = any_below_false (claims side sets vm) PAGES page e h

-- ---- what a VM may map
module _ (side : Side) (sets pairs : List ℕ) (vm page : ℕ) where
  pub may_own : claims side sets vm page ≡ true → may_map side sets pairs vm page ≡ true
  unfolding may_map
  may_own e = rw e

  pub may_lent : lent_to side sets pairs vm page ≡ true → may_map side sets pairs vm page ≡ true
  unfolding may_map
  may_lent e = rw e (or-true (claims side sets vm page))

  pub may_either : may_map side sets pairs vm page ≡ true → (claims side sets vm page ≡ true) ⊎ (lent_to side sets pairs vm page ≡ true)
  unfolding may_map
  may_either e = either (claims side sets vm page) (lent_to side sets pairs vm page) e
