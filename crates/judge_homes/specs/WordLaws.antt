-- The bits of a span, and what a test of words decides.
use Rattle.std.specs.Prelude.{ℕ, ◌+◌, ◌*◌, ◌^◌, ◌≤◌, ◌<◌, Bool, true, ◌&&◌, ◌||◌, ◌≡◌, eqb, ltb}
use Rattle.std.proofs.Common.{true≢false, inl, inr, ⊎_elim, sym, ◌∙◌, arith, lt-ltb, le-ltb, le-leb}
use Rattle.std.proofs.Math.Bool.{xor}
use Rattle.std.proofs.lemmas.Bool.{lt-leb}
use Rattle.std.specs.Int.Bits.{bit_and, bit_or, and_lt}
use Rattle.std.proofs.lemmas.Nat.{or_lt, xor_lt}
use Rattle.numbers.specs.CaseLaws.{cases}
use Rattle.numbers.specs.Decides.{Decides}
use Rattle.numbers.specs.DecidesLaws.{decides_as, decides_itself, decides_equal, decides_and, decides_or}
use Rattle.pages.specs.Bits.{has_bit}
use Rattle.pages.specs.BitLaws.{below_or}
use Rattle.pages.specs.Columns.{below_word}
use Rattle.pages.specs.ColumnLaws.{below_bit, below_fits}
use Rattle.pages.specs.WordLaws.{same_bits, zero_none, none_zero, has_bit-and, has_bit-xor, and_both, both_and, or_either, either_or}
use Rattle.model.specs.Start.{in_span}
use Rattle.judge_homes.specs.Columns.{span_word, Apart, VmGood}

-- ---- the pages of a span
between : (base count page : ℕ) → xor (ltb page (base + count)) (ltb page base) ≡ in_span base count page
unfolding xor
between base count page = ⊎_elim before after (below_or page base)
  where
    before : page < base → xor (ltb page (base + count)) (ltb page base) ≡ in_span base count page
    before h = let g : page < base + count = omega arith in rw (lt-ltb page base h, lt-ltb page (base + count) g, lt-leb base page h)

    after : base ≤ page → xor (ltb page (base + count)) (ltb page base) ≡ in_span base count page
    after h = rw (le-ltb page base h, le-leb base page h) (⊎_elim (λ t. rw t) (λ f. rw f) (cases (ltb page (base + count))))

pub span_bit : (base count k j : ℕ) → j < 64 → has_bit (span_word base count k) j ≡ in_span base count (k * 64 + j)
span_bit base count k j l =
    has_bit-xor (below_word (base + count) k) (below_word base k) j
    ∙ rw (below_bit (base + count) k j l, below_bit base k j l) (between base count (k * 64 + j))

pub span_fits : (base count k : ℕ) → span_word base count k < 2 ^ 64
span_fits base count k = xor_lt 64 (below_word (base + count) k) (below_word base k) (below_fits (base + count) k) (below_fits base k)

-- ---- what the tests of words decide
pub apart_decides : (w v : ℕ) → w < 2 ^ 64 → v < 2 ^ 64 → Decides (eqb (bit_and w v) 0) (Apart w v)
apart_decides w v a b =
    decides_as (decides_equal (bit_and w v) 0)
    (λ z j l x y. zero_none (bit_and w v) j z (both_and w v j x y))
    (λ h. none_zero (bit_and w v) (and_lt 64 w v a b) (λ j l t. let (x, y) = and_both w v j t in h j l x y))

-- the bits of w are among those of v
pub within_decides : (w v : ℕ) → w < 2 ^ 64 → v < 2 ^ 64 → Decides (eqb (bit_and w v) w) ((j : ℕ) → j < 64 → has_bit w j ≡ true → has_bit v j ≡ true)
within_decides w v a b =
    decides_as (decides_equal (bit_and w v) w)
    (λ e j l x. (and_both w v j (rw e x)).1)
    (λ h. same_bits (bit_and w v) w (and_lt 64 w v a b) a (λ j l. has_bit-and w v j ∙ kept h j l))
  where
    kept : ((j : ℕ) → j < 64 → has_bit w j ≡ true → has_bit v j ≡ true) → (j : ℕ) → j < 64 → (has_bit w j && has_bit v j) ≡ has_bit w j
    kept h j l = ⊎_elim (λ (t : has_bit w j ≡ true). rw (h j l t, t)) (λ f. rw f) (cases (has_bit w j))

-- w has no bit unless t
pub unless_decides : (t : Bool) (w : ℕ) → w < 2 ^ 64 → Decides (t || eqb w 0) ((j : ℕ) → j < 64 → has_bit w j ≡ true → t ≡ true)
unless_decides t w a =
    decides_as (decides_or (decides_itself t) (decides_equal w 0))
    (λ s j l x. ⊎_elim (λ y. y) (λ z. absurd (zero_none w j z x)) s)
    (λ h. ⊎_elim inl (λ f. inr (none_zero w a (λ j l x. true≢false (sym (h j l x) ∙ f)))) (cases t))

-- the four tests of a VM
module _ (known : Bool) (pool held dmaHeld cpu dma : ℕ) (a : pool < 2 ^ 64) (b : held < 2 ^ 64) (c : dmaHeld < 2 ^ 64) (d : cpu < 2 ^ 64) (e : dma < 2 ^ 64) where
  abbrev vm_test : Bool
  vm_test = eqb (bit_and held cpu) 0 && eqb (bit_and dmaHeld dma) 0 && eqb (bit_and dma (bit_or cpu pool)) dma && (known || eqb (bit_or cpu dma) 0)

  pub vm_decides : Decides vm_test (VmGood known pool held dmaHeld cpu dma)
  vm_decides =
      decides_as
      (decides_and
      (decides_and (decides_and (apart_decides held cpu b d) (apart_decides dmaHeld dma c e)) (within_decides dma (bit_or cpu pool) e (or_lt 64 cpu pool d a)))
      (unless_decides known (bit_or cpu dma) (or_lt 64 cpu dma d e)))
      (λ (((x, y), z), u). record { one_home = x; one_dma = y; dma_home = λ j l h. or_either cpu pool j (z j l h); holder_known = λ j l h. u j l (either_or cpu dma j h) })
      (λ g. (((g.one_home, g.one_dma), λ j l h. either_or cpu pool j (g.dma_home j l h)), λ j l h. g.holder_known j l (or_either cpu dma j h)))
