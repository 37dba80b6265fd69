-- Laws of the words of a column, and what holds at the head of the loop over its VMs.
use Rattle.std.specs.Prelude.{ℕ, suc, ◌+◌, ◌^◌, ◌≤◌, ◌<◌, Bool, true, ◌&&◌, List, ◌≡◌, eqb, get_or}
use Rattle.std.proofs.Common.{true≢false, inl, inr, ⊎_elim, sym, ◌∙◌, add-one, arith, pow_pos}
use Rattle.std.specs.Int.Bits.{bit_or, or_zero_l}
use Rattle.std.proofs.lemmas.Nat.{or_lt}
use Rattle.numbers.specs.CaseLaws.{equal}
use Rattle.numbers.specs.Decides.{Decides}
use Rattle.numbers.specs.DecidesLaws.{same_answer, decides_as, decides_equal, decides_and}
use Rattle.numbers.specs.Limits.{VMS}
use Rattle.pages.specs.Bits.{has_bit}
use Rattle.pages.specs.Columns.{below_word}
use Rattle.pages.specs.WordLaws.{has_bit-zero, same_bits, or_either, either_or}
use Rattle.model.specs.Views.{knows}
use Rattle.judge_homes.specs.Columns.{pool_word, shared_word, cpu_word, dma_word, home_word, homes_of, span_word, Apart, Once, Union, VmGood, VmsGood, HomesGood, ColumnGood}

-- ---- words one after another
module _ (f : ℕ → ℕ) where
  union_none : Union f 0 0
  union_none =
      record { fits = pow_pos 64; has = λ i j h l t. absurd (omega arith); from = λ j l t. absurd (true≢false (sym t ∙ has_bit-zero j)) }

  union_next : (n w : ℕ) → f n < 2 ^ 64 → Union f n w → Union f (suc n) (bit_or w (f n))
  union_next n w b u = record { fits = or_lt 64 w (f n) u.fits b; has = has; from = from }
    where
      has : (i j : ℕ) → i < suc n → j < 64 → has_bit (f i) j ≡ true → has_bit (bit_or w (f n)) j ≡ true
      has i j h l t = either_or w (f n) j (⊎_elim (λ e. inr (rw e at t)) (λ d. inl (u.has i j (omega arith) l t)) (equal i n))

      from : (j : ℕ) → j < 64 → has_bit (bit_or w (f n)) j ≡ true → (i : ℕ) × (i < suc n) × (has_bit (f i) j ≡ true)
      from j l t = ⊎_elim (λ x. let (i, h, y) = u.from j l x in (i, omega arith, y)) (λ x. (n, omega arith, x)) (or_either w (f n) j t)

  union_one : f 0 < 2 ^ 64 → Union f 1 (f 0)
  union_one b = rw (or_zero_l (f 0)) at (union_next 0 0 b union_none)

  -- words have one union
  union_same : (n w v : ℕ) → Union f n w → Union f n v → w ≡ v
  union_same n w v u u' = same_bits w v u.fits u'.fits same
    where
      through : (a b j : ℕ) → j < 64 → Union f n a → Union f n b → has_bit a j ≡ true → has_bit b j ≡ true
      through a b j l r s t = let (i, h, x) = r.from j l t in s.has i j h l x

      same : (j : ℕ) → j < 64 → has_bit w j ≡ has_bit v j
      same j l = same_answer (through w v j l u u') (through v w j l u' u)

  once_one : Once f 1
  once_one i i' j h h' l t t' = omega arith

  -- one word more keeps the bits in one word each where it has none of those before, and only there
  once_next : (n w : ℕ) → Union f n w → Apart w (f n) → Once f n → Once f (suc n)
  once_next n w u a o i i' j h h' l t t' = ⊎_elim last before (equal i n)
    where
      last : i ≡ n → i ≡ i'
      last e = ⊎_elim (λ e'. e ∙ sym e') (λ d. absurd (a j l (u.has i' j (omega arith) l t') (rw e at t))) (equal i' n)

      before : (i ≡ n → ⊥) → i ≡ i'
      before d =
          ⊎_elim (λ e'. absurd (a j l (u.has i j (omega arith) l t) (rw e' at t')))
          (λ d'. o i i' j (omega arith) (omega arith) l t t') (equal i' n)

  once_apart : (n w m : ℕ) → Union f n w → n < m → Once f m → Apart w (f n)
  once_apart n w m u h o j l t t' = let (i, g, x) = u.from j l t in let e = o i n j (omega arith) h l x t' in omega arith

-- ---- the first n VMs have passed
pub record Passing (known : ℕ) (sets : List ℕ) (k n held dmaHeld : ℕ) : Type 0 where
  pub place : n ≤ VMS
  pub homes : Union (home_word sets k) (homes_of n) held
  pub holders : Union (dma_word sets k) n dmaHeld
  pub vms : VmsGood known sets k n

module _ (known : ℕ) (sets : List ℕ) (k : ℕ) where
  module _ (fit : (i : ℕ) → get_or sets i 0 < 2 ^ 64) where
    -- the pool and the span
    pub two_apart : (all : ℕ) → HomesGood known sets k all → Apart (pool_word sets k) (shared_word sets k)
    two_apart all g = once_apart (home_word sets k) 1 (pool_word sets k) (homes_of VMS) (union_one (home_word sets k) (fit _)) (omega arith) g.vms.one_home

    pub pass_start : Apart (pool_word sets k) (shared_word sets k) → Passing known sets k 0 (bit_or (pool_word sets k) (shared_word sets k)) 0
    pass_start a =
        let f = home_word sets k in
        let one = union_one f (fit _) in
        record {
          place = omega arith;
          homes = union_next f 1 (f 0) (fit _) one;
          holders = union_none (dma_word sets k);
          vms =
              record {
                one_home = once_next f 1 (f 0) one a (once_one f);
                one_dma = λ vm vm' j h. absurd (omega arith);
                dma_home = λ vm j h. absurd (omega arith);
                holder_known = λ vm j h. absurd (omega arith);
              };
        }

  -- what is tested of the next VM
  abbrev pub NextGood : ℕ → ℕ → ℕ → Type 0
  NextGood n held dmaHeld = VmGood (knows known n) (pool_word sets k) held dmaHeld (cpu_word sets k n) (dma_word sets k n)

  vms_next : (n held dmaHeld : ℕ) → Passing known sets k n held dmaHeld → NextGood n held dmaHeld → VmsGood known sets k (suc n)
  vms_next n held dmaHeld r g =
      record {
        one_home = once_next (home_word sets k) (homes_of n) held r.homes g.one_home r.vms.one_home;
        one_dma = once_next (dma_word sets k) n dmaHeld r.holders g.one_dma r.vms.one_dma;
        dma_home = λ vm j h l t. ⊎_elim (λ e. rw e (g.dma_home j l (rw e at t))) (λ d. r.vms.dma_home vm j (omega arith) l t) (equal vm n);
        holder_known = λ vm j h l t. ⊎_elim (λ e. rw e (g.holder_known j l (rw e at t))) (λ d. r.vms.holder_known vm j (omega arith) l t) (equal vm n);
      }

  pub pass_next : ((i : ℕ) → get_or sets i 0 < 2 ^ 64) → (n held dmaHeld : ℕ) → Passing known sets k n held dmaHeld → n < VMS → NextGood n held dmaHeld →
      Passing known sets k (n + 1) (bit_or held (cpu_word sets k n)) (bit_or dmaHeld (dma_word sets k n))
  pass_next fit n held dmaHeld r h g =
      rw (add-one n)
      (record {
        place = omega arith;
        homes = union_next (home_word sets k) (homes_of n) held (fit _) r.homes;
        holders = union_next (dma_word sets k) n dmaHeld (fit _) r.holders;
        vms = vms_next n held dmaHeld r g;
      })

  -- where all is good, so is the next VM
  pub pass_good : (n held dmaHeld all : ℕ) → Passing known sets k n held dmaHeld → n < VMS → HomesGood known sets k all → NextGood n held dmaHeld
  pass_good n held dmaHeld all r h g =
      record {
        one_home = once_apart (home_word sets k) (homes_of n) held (homes_of VMS) r.homes (omega arith) g.vms.one_home;
        one_dma = once_apart (dma_word sets k) n dmaHeld VMS r.holders h g.vms.one_dma;
        dma_home = λ j l t. g.vms.dma_home n j h l t;
        holder_known = λ j l t. g.vms.holder_known n j h l t;
      }

  pub pass_end : (n held dmaHeld all : ℕ) → Passing known sets k n held dmaHeld → VMS ≤ n → Decides (eqb held all) (HomesGood known sets k all)
  pass_end n held dmaHeld all r h =
      let e : n ≡ VMS = omega arith in
      let r' : Passing known sets k VMS held dmaHeld = rw (← e) r in
      decides_as (decides_equal held all)
      (λ q. record { vms = r'.vms; whole = rw (← q) r'.homes })
      (λ g. union_same (home_word sets k) (homes_of VMS) held all r'.homes g.whole)

-- ---- the two tests of a column
pub column_decides : (pages base count known : ℕ) (sets : List ℕ) (k : ℕ) {t : Bool} → Decides t (HomesGood known sets k (below_word pages k)) →
    Decides (eqb (shared_word sets k) (span_word base count k) && t) (ColumnGood pages base count known sets k)
column_decides pages base count known sets k d =
    decides_as (decides_and (decides_equal (shared_word sets k) (span_word base count k)) d)
    (λ (x, y). record { span = x; homes = y })
    (λ g. (g.span, g.homes))
