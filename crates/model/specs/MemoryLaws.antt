-- Laws of memory: what clearing a part and storing words keep and change.
use Rattle.std.specs.Prelude.{ℕ, zero, suc, ◌+◌, ◌-◌, ◌≤◌, ◌<◌, List, [], ◌∷◌, ◌++◌, ◌≡◌, refl, ltb, length, get_or, set, take, drop, replicate}
use Rattle.std.proofs.Common.{⊎_elim, sym, ap, ◌∙◌, arith, length-set, length-drop, length-take-le, drop-drop, get_or-set_same, get_or-set_other, ltb-true, ltb-false}
use Rattle.std.proofs.lemmas.List.{get_or_past}
use Rattle.std.proofs.Math.Seq.{set_out}
use Rattle.numbers.specs.CaseLaws.{cases, equal}
use Rattle.numbers.specs.Limits.{PAGE_WORDS}
use Rattle.model.specs.Effect.{memory_index, word_in, zeroed, clear_page, cleared_pages, Store, stored, Effect, reads, writes, clears, apply}

-- ---- a part set to zero
pub length-zeroed : (skip count : ℕ) (ws : List ℕ) → length (zeroed skip count ws) ≡ length ws
length-zeroed skip count [] = refl
length-zeroed zero zero (w ∷ ws) = refl
length-zeroed zero (suc count) (w ∷ ws) = ap suc (length-zeroed zero count ws)
length-zeroed (suc skip) count (w ∷ ws) = ap suc (length-zeroed skip count ws)

-- the zeros, and what stands behind the part
zeroed_front : (count : ℕ) (ws : List ℕ) → count ≤ length ws → zeroed 0 count ws ≡ replicate count 0 ++ drop count ws
zeroed_front zero [] h = refl
zeroed_front (suc count) [] h = absurd (omega arith)
zeroed_front zero (w ∷ ws) h = refl
zeroed_front (suc count) (w ∷ ws) h = rw (zeroed_front count ws (omega arith))

-- with what stands before it
pub zeroed_parts : (skip count : ℕ) (ws : List ℕ) → skip + count ≤ length ws → zeroed skip count ws ≡ take skip ws ++ (replicate count 0 ++ drop (skip + count) ws)
zeroed_parts zero count ws h = let z : 0 + count ≡ count = omega arith in rw z (zeroed_front count ws (omega arith))
zeroed_parts (suc skip) count [] h = absurd (omega arith)
zeroed_parts (suc skip) count (w ∷ ws) h =
    let z : suc skip + count ≡ suc (skip + count) = omega arith in
    rw (z, zeroed_parts skip count ws (omega arith))

-- a part of `count` words, lent as `&mut ws[skip..skip + count]`, that came back all zero
pub part_zeroed : (ws last : List ℕ) (skip count : ℕ) → skip + count ≤ length ws → last ≡ replicate (length (take (skip + count - skip) (drop skip ws))) 0 → take skip ws ++ (last ++ drop (skip + count - skip) (drop skip ws)) ≡ zeroed skip count ws
part_zeroed ws last skip count h e =
    let s : skip + count - skip ≡ count = omega arith in
    let l : length (take count (drop skip ws)) ≡ count = length-take-le count (drop skip ws) (omega (arith, length-drop skip ws)) in
    rw (e, s, l, drop-drop count skip ws) (sym (zeroed_parts skip count ws h))

-- every word of the part is 0, also past the end
pub zeroed_inside : (skip count : ℕ) (ws : List ℕ) (i : ℕ) → skip ≤ i → i < skip + count → get_or (zeroed skip count ws) i 0 ≡ 0
zeroed_inside skip count [] i a b = refl
zeroed_inside zero zero (w ∷ ws) i a b = absurd (omega arith)
zeroed_inside zero (suc count) (w ∷ ws) zero a b = refl
zeroed_inside zero (suc count) (w ∷ ws) (suc i) a b = zeroed_inside zero count ws i (omega arith) (omega arith)
zeroed_inside (suc skip) count (w ∷ ws) zero a b = absurd (omega arith)
zeroed_inside (suc skip) count (w ∷ ws) (suc i) a b = zeroed_inside skip count ws i (omega arith) (omega arith)

-- every other word stays
pub zeroed_before : (skip count : ℕ) (ws : List ℕ) (i : ℕ) → i < skip → get_or (zeroed skip count ws) i 0 ≡ get_or ws i 0
zeroed_before skip count [] i a = refl
zeroed_before zero count (w ∷ ws) i a = absurd (omega arith)
zeroed_before (suc skip) count (w ∷ ws) zero a = refl
zeroed_before (suc skip) count (w ∷ ws) (suc i) a = zeroed_before skip count ws i (omega arith)

pub zeroed_behind : (skip count : ℕ) (ws : List ℕ) (i : ℕ) → skip + count ≤ i → get_or (zeroed skip count ws) i 0 ≡ get_or ws i 0
zeroed_behind skip count [] i a = refl
zeroed_behind zero zero (w ∷ ws) i a = refl
zeroed_behind zero (suc count) (w ∷ ws) zero a = absurd (omega arith)
zeroed_behind zero (suc count) (w ∷ ws) (suc i) a = zeroed_behind zero count ws i (omega arith)
zeroed_behind (suc skip) count (w ∷ ws) zero a = absurd (omega arith)
zeroed_behind (suc skip) count (w ∷ ws) (suc i) a = zeroed_behind skip count ws i (omega arith)

-- ---- effects keep the length of memory
pub length-stored : (stores : List Store) (memory : List ℕ) → length (stored stores memory) ≡ length memory
unfolding stored
length-stored [] memory = refl
length-stored (x ∷ xs) memory = length-stored xs _ ∙ simp length-set

pub length-cleared : (pages memory : List ℕ) → length (cleared_pages pages memory) ≡ length memory
unfolding cleared_pages clear_page
length-cleared [] memory = refl
length-cleared (page ∷ pages) memory = length-cleared pages _ ∙ length-zeroed _ _ memory

pub length-applied : (effect : Effect) (memory : List ℕ) → length (apply effect memory) ≡ length memory
unfolding apply
length-applied (reads vm places) memory = refl
length-applied (writes vm stores) memory = length-stored stores memory
length-applied (clears pages) memory = length-cleared pages memory

-- ---- reading
-- a word that is there is read whatever stands for one that is not
pub get_or-there : (ws : List ℕ) (i d d' : ℕ) → i < length ws → get_or ws i d ≡ get_or ws i d'
get_or-there [] i d d' h = absurd (omega arith)
get_or-there (w ∷ ws) zero d d' h = refl
get_or-there (w ∷ ws) (suc i) d d' h = get_or-there ws i d d' (omega arith)

-- ---- a word of a page, after a store or a clearing
-- every other word stays where a word is stored
pub store_another : (memory : List ℕ) (page word value page' word' : ℕ) → word < PAGE_WORDS → word' < PAGE_WORDS → ((page ≡ page') × (word ≡ word') → ⊥) →
    word_in (set memory (memory_index page word) value) page' word' ≡ word_in memory page' word'
unfolding word_in
store_another memory page word value page' word' h h' ne = get_or-set_other memory (memory_index page word) (memory_index page' word') value 0 (λ e. ne (omega arith, omega arith))

pub store_elsewhere : (memory : List ℕ) (page word value page' word' : ℕ) → word < PAGE_WORDS → word' < PAGE_WORDS → (page ≡ page' → ⊥) →
    word_in (set memory (memory_index page word) value) page' word' ≡ word_in memory page' word'
store_elsewhere memory page word value page' word' h h' ne = store_another memory page word value page' word' h h' (λ e. ne e.0)

-- memories of one length agree at the word that is stored, whatever stood there
pub store_here : (a b : List ℕ) (page word value : ℕ) → length a ≡ length b → word_in (set a (memory_index page word) value) page word ≡ word_in (set b (memory_index page word) value) page word
unfolding word_in
store_here a b page word value l =
    let i : ℕ = memory_index page word in
    ⊎_elim (λ t. let h = ltb-true i (length a) t in get_or-set_same a i value 0 h ∙ sym (get_or-set_same b i value 0 (omega (arith, l))))
    (λ f.
    let h = ltb-false i (length a) f in
    rw (set_out a i value h, set_out b i value (omega (arith, l))) (get_or_past a i 0 h ∙ sym (get_or_past b i 0 (omega (arith, l)))))
    (cases (ltb i (length a)))

-- memories of one length that agree at a word agree there after the same store
pub store_both : (a b : List ℕ) (i value page word : ℕ) → length a ≡ length b → word_in a page word ≡ word_in b page word → word_in (set a i value) page word ≡ word_in (set b i value) page word
unfolding word_in
store_both a b i value page word l e = ⊎_elim here there (equal j i)
  where
    j : ℕ
    j = memory_index page word

    here : j ≡ i → get_or (set a i value) j 0 ≡ get_or (set b i value) j 0
    here z =
        ⊎_elim (λ t. let h = ltb-true i (length a) t in rw (z, get_or-set_same a i value 0 h, get_or-set_same b i value 0 (omega (arith, l))))
        (λ f. let h = ltb-false i (length a) f in rw (set_out a i value h, set_out b i value (omega (arith, l))) e) (cases (ltb i (length a)))

    there : (j ≡ i → ⊥) → get_or (set a i value) j 0 ≡ get_or (set b i value) j 0
    there n = get_or-set_other a i j value 0 n ∙ e ∙ sym (get_or-set_other b i j value 0 n)

-- a cleared page is all zero, and a word of another page stays
pub clear_there : (memory : List ℕ) (page word : ℕ) → word < PAGE_WORDS → word_in (clear_page memory page) page word ≡ 0
unfolding word_in clear_page
clear_there memory page word h = zeroed_inside (memory_index page 0) PAGE_WORDS memory (memory_index page word) (omega arith) (omega arith)

pub clear_elsewhere : (memory : List ℕ) (page page' word : ℕ) → word < PAGE_WORDS → (page ≡ page' → ⊥) → word_in (clear_page memory page) page' word ≡ word_in memory page' word
unfolding word_in clear_page
clear_elsewhere memory page page' word h ne =
    ⊎_elim (λ t. let b = ltb-true page' page t in zeroed_before (memory_index page 0) PAGE_WORDS memory (memory_index page' word) (omega arith))
    (λ f. let b = ltb-false page' page f in zeroed_behind (memory_index page 0) PAGE_WORDS memory (memory_index page' word) (omega (arith, ne))) (cases (ltb page' page))
