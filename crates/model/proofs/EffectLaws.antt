-- What an effect does to a word of a page, and that every word that an operation names is one of its page.
use Prim.{Unit, tt}
use Prim.Native.Nat.{ℕ, ◌<◌}
use mathlib.Core.Bool.{not, ◌&&◌}
use mathlib.Core.List.{List, [], ◌∷◌}
use mathlib.Core.Logic.{◌⊎◌, inl, inr, ⊎_elim}
use mathlib.Core.Path.{◌≡◌, refl, sym, ◌∙◌}
use lib.ListN.{length, length-set}
use borrow.Author.Tests.{ltb-true}
use Rattle.numbers.specs.CaseLaws.{equal}
use Rattle.numbers.specs.Limits.{PAGE_WORDS, READ, WRITE}
use Rattle.numbers.specs.Meaning.{Answer, accept}
use Rattle.std.specs.Prelude.{Ok, Err}
use Rattle.numbers.specs.declared.Side.{Side}
use Rattle.numbers.specs.declared.Operation.{Operation}
use Rattle.numbers.specs.declared.Operation.TheVariants as op
use Rattle.numbers.specs.declared.SideOperation.{SideOperation}
use Rattle.numbers.specs.declared.SideOperation.TheVariants as sided
use Rattle.model.specs.State.{Tables}
use Rattle.model.specs.Views.{is_port, is_guest, is_word}
use Rattle.model.specs.Effect.{word_in, Place, Store, Effect, reads, writes, clears, stored, clear_page, cleared_pages, decided}
use Rattle.model.specs.Access.{access_answer}
use Rattle.model.specs.Step.{answer_of, next_of, effect_of, control}
use Rattle.model.specs.EarlyLaws.{past, hold}
use Rattle.model.specs.MemoryLaws.{store_another, store_here, store_both, clear_there, clear_elsewhere}
use Rattle.model.specs.Good.{StoreOn, StoreAt, PageIn}

-- ---- every word that an effect names is one of its page
abbrev pub PlacesInside : List Place → Type 0
PlacesInside [] = Unit {0}
PlacesInside (x ∷ xs) = (x.word < PAGE_WORDS) × PlacesInside xs

abbrev pub StoresInside : List Store → Type 0
StoresInside [] = Unit {0}
StoresInside (x ∷ xs) = (x.place.word < PAGE_WORDS) × StoresInside xs

abbrev pub Inside : Effect → Type 0
Inside (reads vm places) = PlacesInside places
Inside (writes vm stores) = StoresInside stores
Inside (clears pages) = Unit {0}

-- only an access names a word, and only where it is accepted
pub accepted_word : (ports cache walker : List ℕ) (bit port guest word : ℕ) {dropped read : ℕ} → access_answer ports cache walker bit port guest word ≡ accept dropped read → word < PAGE_WORDS
unfolding access_answer
accepted_word ports cache walker bit port guest word e =
    let (a, b) = past (not (is_port port && is_guest guest && is_word word)) _ _ _ e in
    let (r, w) = hold (is_port port && is_guest guest) (is_word word) a in
    ltb-true word PAGE_WORDS w

decided_inside : (t : Tables) (answer : Answer) (new : Tables) (effect : Effect) → ((dropped word : ℕ) → answer ≡ accept dropped word → Inside effect) → Inside (decided t answer new effect).effect
unfolding decided
decided_inside t (Ok ok) new effect h = h ok.dropped ok.word refl
decided_inside t (Err err) new effect h = tt

side_inside : (side : Side) (t : Tables) (operation : SideOperation) (dropped word : ℕ) → answer_of t (op.On side operation) ≡ accept dropped word → Inside (effect_of t (op.On side operation))
side_inside side t (sided.MapPage vm guest page access generation) dropped word e = tt
side_inside side t (sided.UnmapPage vm guest) dropped word e = tt
side_inside side t (sided.InsertRegion region) dropped word e = tt
side_inside side t (sided.RemoveRegion region) dropped word e = tt
side_inside side t (sided.GivePort port target) dropped word e = tt
side_inside side t (sided.FillSlot port guest) dropped word e = tt
side_inside side t (sided.EmptySlot slot) dropped word e = tt
side_inside side t (sided.ReadWord port guest at) dropped word e = (accepted_word _ _ _ READ port guest.0 at e, tt)
side_inside side t (sided.WriteWord port guest at value) dropped word e = (accepted_word _ _ _ WRITE port guest.0 at e, tt)

accepted_inside : (t : Tables) (operation : Operation) (dropped word : ℕ) → answer_of t operation ≡ accept dropped word → Inside (effect_of t operation)
accepted_inside t (op.AddVm vm) dropped word e = tt
accepted_inside t (op.RemoveVm vm) dropped word e = tt
accepted_inside t (op.AssignPage vm page) dropped word e = tt
accepted_inside t (op.ReclaimPage vm page) dropped word e = tt
accepted_inside t (op.SharePage left right page) dropped word e = tt
accepted_inside t (op.UnsharePage left right page) dropped word e = tt
accepted_inside t (op.On side operation) dropped word e = side_inside side t operation dropped word e
accepted_inside t op.DataBarrier dropped word e = tt
accepted_inside t op.InstructionBarrier dropped word e = tt
accepted_inside t (op.RetireVm vm) dropped word e = tt

pub inside : (t : Tables) (operation : Operation) → Inside (control t operation).effect
unfolding control
inside t operation = decided_inside t (answer_of t operation) (next_of t operation) (effect_of t operation) (accepted_inside t operation)

-- ---- a page is cleared or it is not
pub listed : (page : ℕ) (pages : List ℕ) → PageIn page pages ⊎ (PageIn page pages → ⊥)
listed page [] = inr (λ h. h)
listed page (x ∷ xs) = ⊎_elim (λ e. inl (inl e)) (λ n. ⊎_elim (λ h. inl (inr h)) (λ m. inr (⊎_elim n m)) (listed page xs)) (equal x page)

-- a store to a word is one to its page
pub store_on : (page word : ℕ) (stores : List Store) → StoreAt page word stores → StoreOn page stores
store_on page word [] o = absurd o
store_on page word (x ∷ xs) (inl e) = inl e.0
store_on page word (x ∷ xs) (inr o) = inr (store_on page word xs o)

-- both hold, or not both
both_or_not : {A B : Type 0} → A ⊎ (A → ⊥) → B ⊎ (B → ⊥) → (A × B) ⊎ (A × B → ⊥)
both_or_not (inl a) (inl b) = inl (a, b)
both_or_not (inl a) (inr n) = inr (λ p. n p.1)
both_or_not (inr n) b = inr (λ p. n p.0)

-- ---- a word of a page
module _ (page word : ℕ) (h : word < PAGE_WORDS) where
  -- it stays, or is itself stored to
  pub stored_or_same : (stores : List Store) (memory : List ℕ) → StoresInside stores → (word_in (stored stores memory) page word ≡ word_in memory page word) ⊎ StoreAt page word stores
  unfolding stored
  stored_or_same [] memory i = inl refl
  stored_or_same (x ∷ xs) memory i =
      ⊎_elim (λ e. inr (inl e))
      (λ n. ⊎_elim (λ q. inl (q ∙ store_another memory x.place.page x.place.word x.value page word i.0 h n)) (λ o. inr (inr o)) (stored_or_same xs _ i.1))
      (both_or_not (equal x.place.page page) (equal x.place.word word))

  -- in two memories of one length it agrees after the same stores where it agreed before
  stores_agree : (stores : List Store) (a b : List ℕ) → length a ≡ length b → word_in a page word ≡ word_in b page word → word_in (stored stores a) page word ≡ word_in (stored stores b) page word
  unfolding stored
  stores_agree [] a b l e = e
  stores_agree (x ∷ xs) a b l e = stores_agree xs _ _ (length-set a _ _ ∙ l ∙ sym (length-set b _ _)) (store_both a b _ x.value page word l e)

  -- or where it is stored to, whatever stood there
  pub stored_over : (stores : List Store) → StoreAt page word stores → (a b : List ℕ) → length a ≡ length b → word_in (stored stores a) page word ≡ word_in (stored stores b) page word
  unfolding stored
  stored_over [] o a b l = absurd o
  stored_over (x ∷ xs) (inl (p, w)) a b l =
      rw (p, w) (stores_agree xs _ _ (length-set a _ _ ∙ l ∙ sym (length-set b _ _)) (store_here a b page word x.value l))
  stored_over (x ∷ xs) (inr o) a b l = stored_over xs o _ _ (length-set a _ _ ∙ l ∙ sym (length-set b _ _))

  -- it stays where its page is not cleared
  pub uncleared_same : (pages memory : List ℕ) → (PageIn page pages → ⊥) → word_in (cleared_pages pages memory) page word ≡ word_in memory page word
  unfolding cleared_pages
  uncleared_same [] memory n = refl
  uncleared_same (x ∷ xs) memory n = uncleared_same xs _ (λ o. n (inr o)) ∙ clear_elsewhere memory x page word h (λ e. n (inl e))

  -- in two memories it agrees after the same clearing where its page is cleared or it agreed before
  abbrev Agrees : List ℕ → List ℕ → Type 0
  Agrees a b = word_in a page word ≡ word_in b page word

  clear_agrees : (a b : List ℕ) (x : ℕ) → (x ≡ page) ⊎ Agrees a b → Agrees (clear_page a x) (clear_page b x)
  clear_agrees a b x c = ⊎_elim here (λ n. ⊎_elim here (there n) c) (equal x page)
    where
      here : x ≡ page → Agrees (clear_page a x) (clear_page b x)
      here e = rw e (clear_there a page word h ∙ sym (clear_there b page word h))

      there : (x ≡ page → ⊥) → Agrees a b → Agrees (clear_page a x) (clear_page b x)
      there n q = clear_elsewhere a x page word h n ∙ q ∙ sym (clear_elsewhere b x page word h n)

  pub cleared_agrees : (pages a b : List ℕ) → PageIn page pages ⊎ Agrees a b → Agrees (cleared_pages pages a) (cleared_pages pages b)
  unfolding cleared_pages
  cleared_agrees [] a b (inl z) = absurd z
  cleared_agrees [] a b (inr q) = q
  cleared_agrees (x ∷ xs) a b (inl (inl e)) = cleared_agrees xs _ _ (inr (clear_agrees a b x (inl e)))
  cleared_agrees (x ∷ xs) a b (inl (inr o)) = cleared_agrees xs _ _ (inl o)
  cleared_agrees (x ∷ xs) a b (inr q) = cleared_agrees xs _ _ (inr (clear_agrees a b x (inr q)))
