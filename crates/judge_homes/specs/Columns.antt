-- The page sets by columns (pages' Columns), and what is tested of a column.
use Rattle.std.specs.Prelude.{ℕ, zero, suc, ◌+◌, ◌^◌, ◌<◌, Bool, true, List, ◌⊎◌, ◌≡◌}
use Rattle.std.specs.Int.Bits.{bit_xor}
use Rattle.numbers.specs.Limits.{VMS}
use Rattle.pages.specs.Bits.{has_bit}
use Rattle.pages.specs.Columns.{column_word, below_word}
use Rattle.pages.specs.Rows.{pool_row, shared_row, cpu_row, dma_row}
use Rattle.model.specs.Views.{knows}

-- ---- the words of a column
abbrev pub pool_word : List ℕ → ℕ → ℕ
pool_word sets k = column_word sets pool_row k

abbrev pub shared_word : List ℕ → ℕ → ℕ
shared_word sets k = column_word sets shared_row k

abbrev pub cpu_word : List ℕ → ℕ → ℕ → ℕ
cpu_word sets k vm = column_word sets (cpu_row vm) k

abbrev pub dma_word : List ℕ → ℕ → ℕ → ℕ
dma_word sets k vm = column_word sets (dma_row vm) k

-- the homes in order: the pool, the shared span, then the CPU pages of each VM
abbrev pub home_row : ℕ → ℕ
home_row zero = pool_row
home_row (suc zero) = shared_row
home_row (suc (suc vm)) = cpu_row vm

abbrev pub home_word : List ℕ → ℕ → ℕ → ℕ
home_word sets k i = column_word sets (home_row i) k

-- how many they are with n VMs
abbrev pub homes_of : ℕ → ℕ
homes_of n = suc (suc n)

-- a bit for each page of a span
abbrev pub span_word : ℕ → ℕ → ℕ → ℕ
span_word base count k = bit_xor (below_word (base + count) k) (below_word base k)

-- ---- words as sets of bits
-- no bit in both
abbrev pub Apart : ℕ → ℕ → Type 0
Apart w v = (j : ℕ) → j < 64 → has_bit w j ≡ true → has_bit v j ≡ true → ⊥

-- no bit in two of the first n words
abbrev pub Once : (ℕ → ℕ) → ℕ → Type 0
Once f n = (i i' j : ℕ) → i < n → i' < n → j < 64 → has_bit (f i) j ≡ true → has_bit (f i') j ≡ true → i ≡ i'

-- w has the bits of the first n words and no other
pub record Union (f : ℕ → ℕ) (n w : ℕ) : Type 0 where
  pub fits : w < 2 ^ 64
  pub has : (i j : ℕ) → i < n → j < 64 → has_bit (f i) j ≡ true → has_bit w j ≡ true
  pub from : (j : ℕ) → j < 64 → has_bit w j ≡ true → (i : ℕ) × (i < n) × (has_bit (f i) j ≡ true)

-- ---- what is tested
-- one VM's words, where `held` has the pages of the homes before it and `dmaHeld` those that a VM before it holds for DMA
pub record VmGood (known : Bool) (pool held dmaHeld cpu dma : ℕ) : Type 0 where
  pub one_home : Apart held cpu
  pub one_dma : Apart dmaHeld dma
  pub dma_home : (j : ℕ) → j < 64 → has_bit dma j ≡ true → (has_bit cpu j ≡ true) ⊎ (has_bit pool j ≡ true)
  pub holder_known : (j : ℕ) → j < 64 → (has_bit cpu j ≡ true) ⊎ (has_bit dma j ≡ true) → known ≡ true

-- the first n VMs
pub record VmsGood (known : ℕ) (sets : List ℕ) (k n : ℕ) : Type 0 where
  pub one_home : Once (home_word sets k) (homes_of n)
  pub one_dma : Once (dma_word sets k) n
  pub dma_home : (vm j : ℕ) → vm < n → j < 64 → has_bit (dma_word sets k vm) j ≡ true →
      (has_bit (cpu_word sets k vm) j ≡ true) ⊎ (has_bit (pool_word sets k) j ≡ true)
  pub holder_known : (vm j : ℕ) → vm < n → j < 64 → (has_bit (cpu_word sets k vm) j ≡ true) ⊎ (has_bit (dma_word sets k vm) j ≡ true) →
      knows known vm ≡ true

-- all VMs, where the homes together have the pages of `all`
pub record HomesGood (known : ℕ) (sets : List ℕ) (k all : ℕ) : Type 0 where
  pub vms : VmsGood known sets k VMS
  pub whole : Union (home_word sets k) (homes_of VMS) all

pub record ColumnGood (pages base count known : ℕ) (sets : List ℕ) (k : ℕ) : Type 0 where
  pub span : shared_word sets k ≡ span_word base count k
  pub homes : HomesGood known sets k (below_word pages k)
