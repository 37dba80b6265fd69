-- Laws of the page sets: what adding and removing a page changes, when a page is free, and what the free count and the lowest free page say.
use Rattle.std.specs.Prelude.{ℕ, zero, suc, ◌+◌, ◌*◌, ◌/◌, ◌%◌, ◌≤◌, ◌<◌, Bool, true, false, List, ◌≡◌, refl, eqb, length, Some, None}
use Rattle.std.proofs.Common.{true≢false, ⊎_elim, sym, ◌∙◌, arith, add-one, below_more, eq-eqb, ne_eqb, eqb-true}
use Rattle.std.proofs.Math.Bool.{and-true, and-false}
use Rattle.std.proofs.lemmas.Bool.{eqb-false}
use Rattle.numbers.specs.CaseLaws.{cases, equal}
use Rattle.numbers.specs.Decides.{Decides}
use Rattle.numbers.specs.DecidesLaws.{decides_itself, decides_and, decides_not, same_answer}
use Rattle.numbers.specs.Limits.{PAGES, SET_WORDS, VMS}
use Rattle.numbers.specs.declared.PhysPage.{PhysPage}
use Rattle.table.specs.Scan.{count_below, lowest}
use Rattle.table.specs.ScanLaws.{lowest_within, lowest_found, lowest_none, some_below}
use Rattle.pages.specs.BitLaws.{
  below_or,
  contains_insert_same,
  contains_insert_other,
  contains_delete_same,
  contains_delete_other,
  length-insert,
  length-delete,
}
use Rattle.pages.specs.Rows.{pool_row, dma_row, holds, add, remove, held_for_dma, is_free, free_count, lowest_of, lowest_free}

-- ---- a page of a row
-- a row begins with a word of its own, so a page's bit is the same in every row
pub place_bit : (row page : ℕ) → (row * PAGES + page) % 64 ≡ page % 64
place_bit row page = omega arith

-- that word is the one that has page 0
pub place_first : (row : ℕ) → (row * PAGES + 0) / 64 ≡ row * SET_WORDS
place_first row = omega arith

module _ (sets : List ℕ) (row page : ℕ) where
  pub holds_add_same : page < PAGES → (row + 1) * SET_WORDS ≤ length sets → holds (add sets row page) row page ≡ true
  holds_add_same h l = contains_insert_same sets (row * PAGES + page) (omega arith)

  pub holds_remove_same : holds (remove sets row page) row page ≡ false
  holds_remove_same = contains_delete_same sets (row * PAGES + page)

  module _ (row' page' : ℕ) (h : page < PAGES) (h' : page' < PAGES) (n : row ≡ row' → page ≡ page' → ⊥) where
    apart : row' * PAGES + page' ≡ row * PAGES + page → ⊥
    apart e = let r : row ≡ row' = omega arith in n r (omega arith)

    pub holds_add_other : holds (add sets row page) row' page' ≡ holds sets row' page'
    holds_add_other = contains_insert_other sets (row * PAGES + page) (row' * PAGES + page') apart

    pub holds_remove_other : holds (remove sets row page) row' page' ≡ holds sets row' page'
    holds_remove_other = contains_delete_other sets (row * PAGES + page) (row' * PAGES + page') apart

  pub length-add : length (add sets row page) ≡ length sets
  length-add = length-insert sets (row * PAGES + page)

  pub length-remove : length (remove sets row page) ≡ length sets
  length-remove = length-delete sets (row * PAGES + page)

-- ---- counting and searching, for any test
module _ (p : ℕ → Bool) where
  count_le : (n : ℕ) → count_below p n ≤ n
  count_le zero = omega arith
  count_le (suc n) = ⊎_elim (λ t. rw t (omega (arith, count_le n))) (λ f. rw f (omega (arith, count_le n))) (cases (p n))

  count_zero : (n : ℕ) → ((k : ℕ) → k < n → p k ≡ false) → count_below p n ≡ 0
  count_zero zero h = refl
  count_zero (suc n) h = rw (h n (omega arith)) (count_zero n (λ k l. h k (omega arith)))

  count_none : (n : ℕ) → count_below p n ≡ 0 → (k : ℕ) → k < n → p k ≡ false
  count_none zero e k l = absurd (omega arith)
  count_none (suc n) e k l =
      ⊎_elim
      (λ t. absurd (omega (arith, rw t at e)))
      (λ f. below_more _ n (count_none n (rw f at e)) f k (omega arith))
      (cases (p n))

  none_lowest : (n : ℕ) → count_below p n ≡ 0 → lowest p n ≡ n
  none_lowest n e = ⊎_elim passes (λ h. omega (arith, lowest_within p n)) (below_or (lowest p n) n)
    where
      passes : lowest p n < n → lowest p n ≡ n
      passes h = absurd (true≢false (sym (lowest_found p n h).0 ∙ count_none n e (lowest p n) h))

module _ (p q : ℕ → Bool) where
  count_alike : (n : ℕ) → ((k : ℕ) → k < n → q k ≡ p k) → count_below q n ≡ count_below p n
  count_alike zero h = refl
  count_alike (suc n) h = rw (h n (omega arith), count_alike n (λ k l. h k (omega arith)))

  -- one number below n fewer passes q than p
  count_one : (i n : ℕ) → i < n → p i ≡ true → q i ≡ false → ((k : ℕ) → k < n → (k ≡ i → ⊥) → q k ≡ p k) →
      count_below q n + 1 ≡ count_below p n
  count_one i zero l t f h = absurd (omega arith)
  count_one i (suc n) l t f h = ⊎_elim last (earlier (λ g. count_one i n g t f (λ k l. h k (omega arith)))) (equal n i)
    where
      last : n ≡ i → count_below q (suc n) + 1 ≡ count_below p (suc n)
      last e = let r = count_alike n (λ k g. h k (omega arith) (omega arith)) in rw (e, t, f, ← e) (omega arith)

      earlier : (i < n → count_below q n + 1 ≡ count_below p n) → (n ≡ i → ⊥) → count_below q (suc n) + 1 ≡ count_below p (suc n)
      earlier r d =
          let e = r (omega arith) in
          rw (h n (omega arith) d) (⊎_elim (λ g. rw g (omega arith)) (λ g. rw g (omega arith)) (cases (p n)))

-- ---- free pages
module _ (sets : List ℕ) (page : ℕ) where
  pub held_for_dma-exact : Decides (held_for_dma sets page) ((vm : ℕ) × (vm < VMS) × (holds sets (dma_row vm) page ≡ true))
  unfolding held_for_dma
  held_for_dma-exact = some_below _ (λ vm. holds sets (dma_row vm) page ≡ true) VMS (λ vm h. decides_itself (holds sets (dma_row vm) page))

  pub is_free-exact : Decides (is_free sets page) ((holds sets pool_row page ≡ true) × (held_for_dma sets page ≡ true → ⊥))
  unfolding is_free
  is_free-exact = decides_and (decides_itself (holds sets pool_row page)) (decides_not (decides_itself (held_for_dma sets page)))

  -- not free: one that is not in the pool, one that is held; of a page that nobody holds the pool alone says it
  is_free-outside : holds sets pool_row page ≡ false → is_free sets page ≡ false
  unfolding is_free
  is_free-outside f = rw f

  is_free-held : held_for_dma sets page ≡ true → is_free sets page ≡ false
  unfolding is_free
  is_free-held t = rw t (and-false (holds sets pool_row page))

  is_free-unheld : held_for_dma sets page ≡ false → is_free sets page ≡ holds sets pool_row page
  unfolding is_free
  is_free-unheld f = rw f (and-true (holds sets pool_row page))

-- the pool and the DMA rows alone say it
module _ (sets sets' : List ℕ) (page : ℕ) (dma : (vm : ℕ) → vm < VMS → holds sets' (dma_row vm) page ≡ holds sets (dma_row vm) page) where
  held_for_dma-alike : held_for_dma sets' page ≡ held_for_dma sets page
  held_for_dma-alike =
      same_answer
      (λ t. let (vm, h, e) = (held_for_dma-exact sets' page).sound t in (held_for_dma-exact sets page).complete (vm, h, sym (dma vm h) ∙ e))
      (λ t. let (vm, h, e) = (held_for_dma-exact sets page).sound t in (held_for_dma-exact sets' page).complete (vm, h, dma vm h ∙ e))

  pub is_free-alike : holds sets' pool_row page ≡ holds sets pool_row page → is_free sets' page ≡ is_free sets page
  unfolding is_free
  is_free-alike e = rw (held_for_dma-alike, e)

-- what a lowest free page is
pub record LowestFree (sets : List ℕ) (n page : ℕ) : Type 0 where
  pub within : page < n
  pub free : is_free sets page ≡ true
  pub lower : (k : ℕ) → k < page → is_free sets k ≡ false

-- the answer for where a search ends
pub lowest_page : (n stop : ℕ) → stop < n → Some (record { 0 = stop }) ≡ lowest_of n stop
lowest_page n stop h = rw (ne_eqb stop n (omega arith))

pub lowest_nothing : (n : ℕ) → None ≡ lowest_of n n
lowest_nothing n = rw (eq-eqb n n refl)

-- a page is not nothing
pub page_nothing : (page : PhysPage) → Some page ≡ None → ⊥
page_nothing page e = let z : ◌≡◌ {A = ℕ} 0 1 = cc in omega arith

at_end : (n stop : ℕ) → lowest_of n stop ≡ None → stop ≡ n
at_end n stop e = ⊎_elim (λ t. eqb-true stop n t) (λ f. absurd (page_nothing _ (rw f at e))) (cases (eqb stop n))

at_page : (n stop : ℕ) (page : PhysPage) → lowest_of n stop ≡ Some page → (stop ≡ page.0) × (stop ≡ n → ⊥)
at_page n stop page e =
    ⊎_elim
    (λ t. absurd (page_nothing page (sym (rw t at e))))
    (λ f. let e' = rw f at e in (cc, eqb-false stop n f))
    (cases (eqb stop n))

module _ (sets : List ℕ) (n : ℕ) where
  -- the count, one page further
  pub free_count-found : is_free sets n ≡ true → free_count sets (n + 1) ≡ free_count sets n + 1
  unfolding free_count
  free_count-found t = rw (add-one n, t)

  pub free_count-passed : is_free sets n ≡ false → free_count sets (n + 1) ≡ free_count sets n
  unfolding free_count
  free_count-passed f = rw (add-one n, f)

  pub free_count-le : free_count sets n ≤ n
  unfolding free_count
  free_count-le = count_le (is_free sets) n

  -- it is 0 exactly where there is no lowest
  pub free_count-zero : lowest_free sets n ≡ None → free_count sets n ≡ 0
  unfolding free_count lowest_free
  free_count-zero e =
      let z = at_end n (lowest (is_free sets) n) e in
      count_zero (is_free sets) n (lowest_none (is_free sets) n (omega arith))

  pub lowest_free-nothing : free_count sets n ≡ 0 → lowest_free sets n ≡ None
  unfolding free_count lowest_free
  lowest_free-nothing e = rw (none_lowest (is_free sets) n e) (sym (lowest_nothing n))

  pub lowest_free-page : (page : PhysPage) → lowest_free sets n ≡ Some page → LowestFree sets n page.0
  unfolding lowest_free
  lowest_free-page page e =
      let (same, short) = at_page n (lowest (is_free sets) n) page e in
      let h : lowest (is_free sets) n < n = omega (arith, lowest_within (is_free sets) n) in
      let (free, lower) = lowest_found (is_free sets) n h in
      record { within = omega arith; free = rw same at free; lower = λ k l. lower k (omega arith) }

-- ---- the count, where a page comes or goes
module _ (sets sets' : List ℕ) (n : ℕ) where
  -- sets that agree below n in the pool and in every DMA row
  pub free_count-alike : ((k : ℕ) → k < n → holds sets' pool_row k ≡ holds sets pool_row k) →
      ((k vm : ℕ) → k < n → vm < VMS → holds sets' (dma_row vm) k ≡ holds sets (dma_row vm) k) →
      free_count sets' n ≡ free_count sets n
  unfolding free_count
  free_count-alike pool dma = count_alike (is_free sets) (is_free sets') n (λ k h. is_free-alike sets sets' k (λ vm. dma k vm h) (pool k h))

  -- sets that agree so but for one page, which is free in the first alone
  free_count-one : (page : ℕ) → page < n → is_free sets page ≡ true → is_free sets' page ≡ false →
      ((k : ℕ) → k < n → (k ≡ page → ⊥) → holds sets' pool_row k ≡ holds sets pool_row k) →
      ((k vm : ℕ) → k < n → (k ≡ page → ⊥) → holds sets' (dma_row vm) k ≡ holds sets (dma_row vm) k) →
      free_count sets' n + 1 ≡ free_count sets n
  unfolding free_count
  free_count-one page h t f pool dma =
      count_one (is_free sets) (is_free sets') page n h t f (λ k l d. is_free-alike sets sets' k (λ vm _. dma k vm l d) (pool k l d))

module _ (sets : List ℕ) (page n : ℕ) (h : page < n) (most : n ≤ PAGES) where
  -- a page that nobody holds for DMA comes into the pool, or leaves it
  pub free_count-add : SET_WORDS ≤ length sets → holds sets pool_row page ≡ false → held_for_dma sets page ≡ false →
      free_count (add sets pool_row page) n ≡ free_count sets n + 1
  free_count-add l f none =
      let dma : (vm : ℕ) → vm < VMS → holds (add sets pool_row page) (dma_row vm) page ≡ holds sets (dma_row vm) page = λ vm _. holds_add_other sets pool_row page (dma_row vm) page (omega arith) (omega arith) (λ e _. omega arith) in
      sym
      (free_count-one (add sets pool_row page) sets n page h
      (is_free-unheld _ page (held_for_dma-alike sets (add sets pool_row page) page dma ∙ none) ∙ holds_add_same sets pool_row page (omega arith) (omega arith))
      (is_free-unheld sets page none ∙ f)
      (λ k b d. sym (holds_add_other sets pool_row page pool_row k (omega arith) (omega arith) (λ _ e. d (sym e))))
      (λ k vm b d. sym (holds_add_other sets pool_row page (dma_row vm) k (omega arith) (omega arith) (λ e _. omega arith))))

  pub free_count-remove : is_free sets page ≡ true → free_count (remove sets pool_row page) n + 1 ≡ free_count sets n
  free_count-remove t =
      free_count-one sets (remove sets pool_row page) n page h t
      (is_free-outside _ page (holds_remove_same sets pool_row page))
      (λ k b d. holds_remove_other sets pool_row page pool_row k (omega arith) (omega arith) (λ _ e. d (sym e)))
      (λ k vm b d. holds_remove_other sets pool_row page (dma_row vm) k (omega arith) (omega arith) (λ e _. omega arith))

  -- a VM's DMA claim comes on a free page; the only one on a page of the pool goes
  module _ (vm : ℕ) (few : vm < VMS) where
    pub free_count-claim : (dma_row vm + 1) * SET_WORDS ≤ length sets → is_free sets page ≡ true → free_count (add sets (dma_row vm) page) n + 1 ≡ free_count sets n
    free_count-claim l t =
        free_count-one sets (add sets (dma_row vm) page) n page h t
        (is_free-held _ page ((held_for_dma-exact _ page).complete (vm, few, holds_add_same sets (dma_row vm) page (omega arith) l)))
        (λ k b d. holds_add_other sets (dma_row vm) page pool_row k (omega arith) (omega arith) (λ e _. omega arith))
        (λ k other b d. holds_add_other sets (dma_row vm) page (dma_row other) k (omega arith) (omega arith) (λ _ e. d (sym e)))

    pub free_count-release : holds sets pool_row page ≡ true → holds sets (dma_row vm) page ≡ true →
        ((other : ℕ) → other < VMS → holds sets (dma_row other) page ≡ true → other ≡ vm) →
        free_count (remove sets (dma_row vm) page) n ≡ free_count sets n + 1
    free_count-release pool held alone =
        sym
        (free_count-one (remove sets (dma_row vm) page) sets n page h
        ((is_free-exact _ page).complete (pool_stays ∙ pool, unheld))
        (is_free-held sets page ((held_for_dma-exact sets page).complete (vm, few, held)))
        (λ k b d. sym (holds_remove_other sets (dma_row vm) page pool_row k (omega arith) (omega arith) (λ e _. omega arith)))
        (λ k other b d. sym (holds_remove_other sets (dma_row vm) page (dma_row other) k (omega arith) (omega arith) (λ _ e. d (sym e)))))
      where
        pool_stays : holds (remove sets (dma_row vm) page) pool_row page ≡ holds sets pool_row page
        pool_stays = holds_remove_other sets (dma_row vm) page pool_row page (omega arith) (omega arith) (λ e _. omega arith)

        unheld : held_for_dma (remove sets (dma_row vm) page) page ≡ true → ⊥
        unheld t =
            let (other, l, e) = (held_for_dma-exact (remove sets (dma_row vm) page) page).sound t in
            ⊎_elim
            (λ q. true≢false (sym (rw q at e) ∙ holds_remove_same sets (dma_row vm) page))
            (λ d. d (alone other l (sym (holds_remove_other sets (dma_row vm) page (dma_row other) page (omega arith) (omega arith) (λ q _. d (omega arith))) ∙ e)))
            (equal other vm)
